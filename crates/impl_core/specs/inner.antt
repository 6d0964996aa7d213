pub mod Cores
pub mod Moving
pub mod Needed
pub mod Outlooks
pub mod Pushes
