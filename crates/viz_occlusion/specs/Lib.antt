pub mod Culled
pub mod inner
