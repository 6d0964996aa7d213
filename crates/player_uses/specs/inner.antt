pub mod Fragments
pub mod Inputs
pub mod Judged
pub mod Parts
pub mod Recordings
pub mod Shots
