pub mod Lists
pub mod Turns
pub mod PassModels
pub mod Journals
pub mod inner
