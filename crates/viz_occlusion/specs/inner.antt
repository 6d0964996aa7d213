pub mod Bands
pub mod Cover
