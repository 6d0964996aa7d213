pub mod Redrawn
pub mod RedrawnIn
