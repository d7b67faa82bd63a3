pub mod Input
pub mod Grammar
pub mod Reading
pub mod Numbers
pub mod Vectors
pub mod Readers
pub mod Calls
pub mod Spelling
