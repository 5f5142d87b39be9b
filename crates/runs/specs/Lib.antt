pub mod Behind
pub mod Machine
pub mod Calls
pub mod Promise
pub mod Steady
