pub mod Faults
pub mod Json
pub mod Values
