pub mod Events
pub mod Standing
pub mod Choices
pub mod ShownKeys
pub mod Pages
