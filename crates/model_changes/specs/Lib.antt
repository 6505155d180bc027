pub mod Alternatives
pub mod Connections
