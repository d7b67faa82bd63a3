pub mod NamedFiles
pub mod SessionWords
pub mod Words
pub mod Commands
