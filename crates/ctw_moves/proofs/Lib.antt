pub mod AlikeMoves
pub mod RefusedMoves
pub mod Refusing
pub mod Effects
pub mod SoundMoves
pub mod SmallCalls
pub mod ErasedMoves
pub mod Launches
pub mod QuietMoves
pub mod TakenBytes
pub mod ExportsLead
pub mod MoreArguments
pub mod MoreMoves
pub mod ArgumentNumbers
pub mod KeptLimits
mod Examples
