pub mod Fronts
pub mod Lanes
