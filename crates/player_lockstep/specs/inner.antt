pub mod Ways
pub mod Batches
pub mod Filming
pub mod Receivers
pub mod Shooting
