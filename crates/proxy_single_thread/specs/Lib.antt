pub mod Singles
pub mod inner
