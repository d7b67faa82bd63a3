pub mod Launch
pub mod FewSites
pub mod Marks
pub mod UnderProfiles
