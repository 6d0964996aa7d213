pub mod Chains
pub mod Clips
pub mod Families
pub mod Indexes
pub mod Marks
pub mod Rising
pub mod TableFacts
pub mod Walks
