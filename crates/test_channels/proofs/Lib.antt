-- What is proved of passes.
pub mod Stopped
