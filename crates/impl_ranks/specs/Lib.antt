pub mod SeenTrees
pub mod Areas
pub mod inner
