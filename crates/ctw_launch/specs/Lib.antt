pub mod Launched
pub mod Outcomes
pub mod ErasedSets
