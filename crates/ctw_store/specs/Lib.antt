pub mod Made
pub mod Pages
pub mod Answers
pub mod Held
