pub mod Rebuilds
pub mod inner
