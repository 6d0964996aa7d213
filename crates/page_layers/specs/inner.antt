pub mod LayerSamples
pub mod FoundPlaces
pub mod Tested
pub mod Runs
