pub mod Tiles
pub mod Stamps
pub mod inner
