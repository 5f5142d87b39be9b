pub mod Begun
pub mod Decimal
pub mod First
pub mod Places
pub mod Sofar
pub mod Steps
pub mod Asked
