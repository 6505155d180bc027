pub mod Equality
pub mod Freshness
pub mod Sites
