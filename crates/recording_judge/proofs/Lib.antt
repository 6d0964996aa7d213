pub mod KeySets
pub mod QueueFacts
pub mod TileSteps
pub mod MainSteps
pub mod HostFacts
pub mod DueEvents
pub mod StateFacts
pub mod ShownPages
