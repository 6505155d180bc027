pub mod LineReaders
pub mod Lines
pub mod Ranges
pub mod Writable
