pub mod Entries
pub mod Fixed
