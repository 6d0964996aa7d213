mod Areas
pub mod Blends
pub mod Fills
pub mod FourPixels
pub mod LaneTests
pub mod LaneWise
pub mod Parts
pub mod Steps
