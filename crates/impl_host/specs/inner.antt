pub mod LivePages
pub mod Steps
pub mod Tests
