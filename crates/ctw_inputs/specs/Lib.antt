pub mod Saying
pub mod Outcome
pub mod Inputs
pub mod Lines
pub mod Settling
pub mod Parts
