pub mod Drawing
pub mod Hulls
pub mod Masks
pub mod Paints
pub mod Rooms
pub mod Shown
