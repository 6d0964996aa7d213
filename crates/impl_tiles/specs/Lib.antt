pub mod Choices
pub mod Managers
pub mod Passed
pub mod Stores
pub mod Visible
pub mod inner
