pub mod Holdings
pub mod Steps
pub mod Mains
pub mod Works
pub mod Goings
