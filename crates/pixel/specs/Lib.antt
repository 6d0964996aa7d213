pub mod Colours
pub mod LaneBytes
pub mod Laws
pub mod Rows
pub mod Surfaces
pub mod Views
pub mod inner
