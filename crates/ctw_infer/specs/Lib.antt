pub mod Answers
pub mod Misuse
pub mod Searched
