pub mod Shots
pub mod Summaries
pub mod Actors
pub mod Plays
