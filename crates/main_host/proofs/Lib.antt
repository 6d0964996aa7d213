pub mod FramesRun
pub mod HostFacts
