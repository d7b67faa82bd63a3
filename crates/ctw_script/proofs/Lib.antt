pub mod Facts
pub mod ArgumentLaws
pub mod LineLaws
pub mod Kept
pub mod ScriptLaws
pub mod TokenShapes
pub mod LineWords
