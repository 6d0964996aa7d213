pub mod Listing
pub mod Evictables
pub mod Orders
pub mod Waiting
