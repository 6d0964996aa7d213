pub mod Objects
pub mod Streamed
pub mod ItemValues
