pub mod Surfaces
pub mod inner
