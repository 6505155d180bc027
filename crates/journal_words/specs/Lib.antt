pub mod Ranges
pub mod Readers
pub mod WordLaws
pub mod Words
pub mod Writable
