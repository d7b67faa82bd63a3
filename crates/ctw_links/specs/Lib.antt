pub mod Asks
pub mod Collected
pub mod Firsts
pub mod Uses
