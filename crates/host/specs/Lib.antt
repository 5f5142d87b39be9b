pub mod Readings
pub mod Drifts
pub mod Traces
pub mod Order
