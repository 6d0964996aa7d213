pub mod Lists
pub mod Stamped
pub mod Pairs
