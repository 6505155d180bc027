pub mod Pools
pub mod Ranges
pub mod Steps
pub mod Told
