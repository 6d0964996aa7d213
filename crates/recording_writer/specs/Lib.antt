pub mod Parts
pub mod Images
pub mod Files
pub mod Repeats
pub mod Scenes
pub mod Steps
pub mod Batches
