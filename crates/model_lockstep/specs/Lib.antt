pub mod Measures
pub mod Receivers
pub mod Walks
