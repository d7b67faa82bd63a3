pub mod Moves
pub mod Numbers
pub mod Split
pub mod Reasons
pub mod Steps
pub mod States
pub mod Leads
pub mod Second
