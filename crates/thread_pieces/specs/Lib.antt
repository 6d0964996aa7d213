pub mod Answers
pub mod Puts
pub mod Ring
pub mod Scenes
pub mod Shots
