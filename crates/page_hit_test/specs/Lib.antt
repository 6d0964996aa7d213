pub mod Wheels
pub mod Laws
pub mod inner
