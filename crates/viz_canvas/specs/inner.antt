pub mod Bands
pub mod Copies
pub mod Fresh
pub mod Halves
pub mod MovedAreas
pub mod Packing
pub mod Parts
pub mod Pieces
