pub mod Parts
pub mod Within
pub mod Steps
pub mod Walks
