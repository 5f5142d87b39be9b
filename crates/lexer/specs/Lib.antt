pub mod Plain
pub mod Places
