pub mod ShortRuns
pub mod ProgressSteps
pub mod Forgetting
pub mod LogSteps
pub mod GrownLogs
