-- What the tests say of passes.
pub mod Passes
