pub mod WordsRead
pub mod WordsCut
pub mod PartsNamed
pub mod WorkWords
