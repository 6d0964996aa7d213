pub mod Tiles
pub mod Mains
pub mod Hosts
pub mod States
