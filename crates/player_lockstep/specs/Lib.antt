pub mod Recordings
pub mod inner
pub mod Films
pub mod Shots
