pub mod Meaning
pub mod Spent
pub mod Calls
pub mod Model
pub mod Plan
pub mod Regions
pub mod Cells
