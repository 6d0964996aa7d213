pub mod Runs
pub mod Progress
pub mod Kept
pub mod inner
