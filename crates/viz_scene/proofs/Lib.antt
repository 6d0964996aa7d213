pub mod Steps
pub mod Hiding
pub mod Places
pub mod Rests
pub mod RectSteps
