pub mod Hosts
pub mod Rests
