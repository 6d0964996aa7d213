pub mod Acting
pub mod Alike
pub mod Areas
pub mod Moved
