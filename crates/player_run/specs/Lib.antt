pub mod Scrolled
pub mod Promises
pub mod Shots
pub mod Runs
pub mod Served
pub mod Ran
pub mod inner
