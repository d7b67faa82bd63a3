pub mod Leading
pub mod Sequences
pub mod Keeping
pub mod KeepingSteps
pub mod Records
pub mod Alone
pub mod Examples
