pub mod Stands
pub mod Walk
pub mod Shows
