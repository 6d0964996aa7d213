pub mod Kept
pub mod Reach
pub mod Writes
