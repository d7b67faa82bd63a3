pub mod Flows
pub mod Marked
