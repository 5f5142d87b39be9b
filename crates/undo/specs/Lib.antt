pub mod Log
pub mod Made
pub mod Works
pub mod Back
pub mod Fit
