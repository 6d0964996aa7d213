pub mod Helds
pub mod Rests
