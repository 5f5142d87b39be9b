pub mod Framed
pub mod Tidying
