pub mod KeyTests
pub mod QueueSteps
pub mod Worst
