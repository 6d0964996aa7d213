pub mod Views
pub mod Pixels
pub mod Sound
pub mod Opaque
pub mod Laws
pub mod inner
pub mod Areas
