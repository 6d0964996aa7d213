pub mod ChainWalks
pub mod Placings
pub mod TopmostSteps
pub mod MainValues
pub mod Turns
pub mod ChainLists
pub mod PartSteps
