pub mod FaultLemmas
pub mod WalkLemmas
