pub mod ShownTiles
pub mod Made
pub mod inner
