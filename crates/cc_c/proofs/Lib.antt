pub mod BelowSteps
pub mod CopiedRows
pub mod HandleValues
pub mod Lanes
pub mod Values
pub mod WrittenRects
