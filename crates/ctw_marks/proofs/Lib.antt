pub mod EntryLaws
pub mod LineLaws
pub mod PlaceTests
pub mod PushLaws
pub mod SiteNames
pub mod TakenLaws
