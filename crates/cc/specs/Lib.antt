pub mod Compositors
pub mod KeptTiles
pub mod inner
