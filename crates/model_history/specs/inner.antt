pub mod Ending
pub mod Applying
pub mod Plans
