pub mod Fillings
pub mod Ranges
pub mod Scripts
pub mod Pages
