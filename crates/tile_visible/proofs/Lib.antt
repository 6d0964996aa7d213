pub mod SeenPlaces
pub mod LayerOrder
pub mod MovedPlaces
