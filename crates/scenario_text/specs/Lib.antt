pub mod Calls
pub mod Limits
pub mod Peers
pub mod Scenarios
