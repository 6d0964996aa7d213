pub mod Tests
pub mod Boths
