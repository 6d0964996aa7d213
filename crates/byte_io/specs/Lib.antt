pub mod Counts
pub mod Logs
pub mod Memory
pub mod Pieces
pub mod Sums
