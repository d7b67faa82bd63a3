pub mod Canon
pub mod Runs
pub mod Ready
pub mod KeepsLimits
