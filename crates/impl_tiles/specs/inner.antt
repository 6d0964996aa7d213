pub mod Chunked
pub mod Outlooks
pub mod Places
pub mod Rows
pub mod TileTables
