pub mod Bounds
pub mod Kinds
pub mod Laws
pub mod Table
