pub mod Lengths
pub mod Exchanges
pub mod Forms
pub mod Endings
pub mod StreamSteps
pub mod Talking
pub mod Writings
