pub mod Screens
pub mod Found
