pub mod Trees
pub mod Lookup
pub mod Given
pub mod Runs
pub mod View
pub mod Gathers
