pub mod Ends
pub mod Fitting
pub mod Firsts
pub mod Keeping
pub mod Labels
pub mod MarkedSites
pub mod Walks
