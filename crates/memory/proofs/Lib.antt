pub mod Plans
pub mod Filling
pub mod Regions
