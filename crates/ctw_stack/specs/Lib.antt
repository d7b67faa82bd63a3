pub mod Operands
pub mod Opens
pub mod View
pub mod Tags
pub mod Steps
pub mod Pass
pub mod Secrets
