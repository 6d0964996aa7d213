mod Eights
mod Turns
pub mod Again
pub mod Back
pub mod Counts
pub mod Fits
pub mod Orders
pub mod Progress
pub mod Quoted
pub mod Signs
