pub mod Faults
mod Places
pub mod Taking
