pub mod Count
pub mod Stages
pub mod Holding
pub mod Listed
