pub mod After
pub mod Answered
pub mod Exchanges
pub mod Goaway
pub mod Lost
pub mod Opened
pub mod StreamEnds
