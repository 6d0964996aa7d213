pub mod Rows
pub mod inner
pub mod Standings
pub mod Occasions
