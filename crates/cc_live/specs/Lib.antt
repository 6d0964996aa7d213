pub mod Lives
pub mod Calls
pub mod MainSide
pub mod Surfaces
pub mod inner
