pub mod Leading
pub mod ByBodies
pub mod StandsByBodies
