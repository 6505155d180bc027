pub mod HeadFields
pub mod ReadBack
pub mod RequestLines
pub mod UnitSteps
pub mod UnitLemmas
