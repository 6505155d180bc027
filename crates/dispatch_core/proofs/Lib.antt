pub mod PortLemmas
pub mod StepLemmas
pub mod ToldLemmas
