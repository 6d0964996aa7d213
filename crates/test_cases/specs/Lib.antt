-- What the client in memory tells.
pub mod Talks
