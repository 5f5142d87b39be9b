pub mod Buffer
pub mod Made
pub mod Works
pub mod Fit
