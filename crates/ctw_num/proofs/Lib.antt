pub mod Bits
pub mod Signs
pub mod Shifts
pub mod Divisions
pub mod Signatures
pub mod Sizes
pub mod Traps
pub mod Values
