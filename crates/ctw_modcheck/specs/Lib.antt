pub mod Faults
pub mod Check
pub mod Answers
