pub mod Points
pub mod Lists
pub mod Laws
pub mod inner
