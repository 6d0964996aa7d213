pub mod Cells
pub mod Keeping
pub mod Stepping
pub mod Sweeps
