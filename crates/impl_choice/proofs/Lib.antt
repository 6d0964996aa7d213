pub mod Rebuilding
pub mod SameTiles
pub mod Activating
pub mod EmptyTrees
pub mod VisibleRanks
pub mod VisibleOnce
pub mod Foreseeing
pub mod LoopFacts
