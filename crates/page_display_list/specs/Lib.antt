pub mod Bitmaps
pub mod Causes
pub mod Content
pub mod Shared
