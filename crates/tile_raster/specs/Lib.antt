pub mod Images
pub mod inner
