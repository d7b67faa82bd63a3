pub mod WideCanon
pub mod Assembled
pub mod Ends
pub mod Written
pub mod Numbers
pub mod Told
