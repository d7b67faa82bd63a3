pub mod View
pub mod Counts
pub mod TagLaws
pub mod Exact
pub mod OperandLaws
pub mod StepLaws
pub mod TreePass
pub mod PassLaws
pub mod FlatLaws
pub mod BodyLaws
pub mod TreePlace
pub mod ReachLaws
pub mod AtLaws
pub mod PlaceLaws
pub mod StopLaws
mod Examples
