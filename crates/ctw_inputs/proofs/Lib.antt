pub mod ModulesRead
pub mod PartNames
pub mod PartsLoaded
pub mod PartsRead
pub mod TextsRead
