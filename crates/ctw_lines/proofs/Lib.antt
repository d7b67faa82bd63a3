pub mod WordsText
pub mod Rests
pub mod TypeBytes
pub mod TypesText
