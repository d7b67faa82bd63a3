pub mod Placed
pub mod Marks
