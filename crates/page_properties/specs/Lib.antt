pub mod Entries
pub mod Families
pub mod Laws
pub mod Nesting
pub mod OffsetMap
pub mod Placement
pub mod Trees
pub mod inner
