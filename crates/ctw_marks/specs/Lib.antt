pub mod Entries
pub mod Grammar
pub mod Meaning
pub mod Orders
pub mod Places
pub mod Pushed
pub mod Readings
pub mod Taken
