-- One act more.
pub mod Acts
