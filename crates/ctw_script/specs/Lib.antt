pub mod Grammar
pub mod Scripts
pub mod Lines
pub mod MoveValues
pub mod LineValues
pub mod WordTexts
pub mod Progress
pub mod Ranges
