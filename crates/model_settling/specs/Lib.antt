pub mod Counts
pub mod Due
pub mod Room
pub mod Settling
