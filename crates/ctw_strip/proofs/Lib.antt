pub mod Mapped
pub mod Bases
pub mod Erasing
pub mod Shorter
pub mod Limited
