pub mod Passes
pub mod LayerQuads
pub mod Joins
