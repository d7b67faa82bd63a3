pub mod Pages
pub mod Numbers
pub mod Writes
pub mod Made
pub mod Holding
pub mod Counts
