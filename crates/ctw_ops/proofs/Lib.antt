pub mod Lists
pub mod EqualLaws
pub mod Tables
pub mod TagMaps
pub mod Segments
pub mod Cut
pub mod Variants
pub mod Profiles
