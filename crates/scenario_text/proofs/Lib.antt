pub mod CallLemmas
pub mod ReaderFaults
