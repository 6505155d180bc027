pub mod NumberLemmas
pub mod PhaseLemmas
pub mod WayLemmas
