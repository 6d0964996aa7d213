pub mod Histories
mod Seats
mod Counts
pub mod Keeps
pub mod Closing
mod Pairs
