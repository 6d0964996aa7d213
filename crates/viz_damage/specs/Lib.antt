pub mod Damage
pub mod Moved
pub mod inner
