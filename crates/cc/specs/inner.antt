pub mod Edits
pub mod Flags
pub mod Marks
pub mod Wants
