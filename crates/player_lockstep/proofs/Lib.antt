mod BatchedRuns
pub mod DrawnScenes
pub mod PlayedWays
pub mod RecordedRuns
pub mod PassedMilestones
mod FilmedRuns
mod ShotRuns
pub mod Received
