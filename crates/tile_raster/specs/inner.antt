pub mod Bands
pub mod Patches
