pub mod Graph
pub mod Rows
pub mod Sorted
pub mod Grouped
pub mod Path
pub mod Search
pub mod Bits
