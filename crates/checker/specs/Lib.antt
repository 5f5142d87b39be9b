pub mod Order
pub mod Last
pub mod Apart
pub mod Laws
pub mod Limits
pub mod Machine
pub mod States
pub mod Verdict
