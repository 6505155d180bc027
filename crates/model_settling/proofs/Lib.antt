pub mod AssignLemmas
pub mod Assigned
pub mod DueLemmas
pub mod EvictLemmas
pub mod KindLemmas
pub mod LeastLemmas
pub mod LowestLemmas
