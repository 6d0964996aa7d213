pub mod Buffers
pub mod Canvases
pub mod CopiedRows
pub mod Formats
pub mod inner
