pub mod EndApart
pub mod JournalLemmas
pub mod LineSteps
