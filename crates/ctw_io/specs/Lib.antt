pub mod Files
pub mod Faults
pub mod Taken
pub mod Held
