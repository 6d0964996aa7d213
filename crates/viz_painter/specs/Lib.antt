pub mod Painters
pub mod Redrawers
pub mod inner
