pub mod Axes
pub mod Steps
pub mod Stages
pub mod Places
