pub mod Allocation
pub mod Exporting
pub mod Room
pub mod Flat
pub mod LiveStates
pub mod Beside
pub mod Launches
pub mod Segments
