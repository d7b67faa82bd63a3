pub mod OnStack
pub mod Named
pub mod Scope
pub mod RowLaws
pub mod LeafLaws
pub mod LevelLaws
pub mod Prefixes
pub mod FaultLaws
pub mod LoopLaws
pub mod Checked
mod Examples
