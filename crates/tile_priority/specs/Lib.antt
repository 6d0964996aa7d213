pub mod Ranks
pub mod Bins
pub mod Tiles
pub mod Ordered
pub mod Choice
pub mod Alike
pub mod Laws
