pub mod Levelled
pub mod Worth
