pub mod FlowLaws
pub mod LineLaws
pub mod MarkLaws
pub mod SiteLaws
