pub mod Answers
pub mod Openings
pub mod Painted
pub mod Recordings
pub mod Verdicts
pub mod inner
