pub mod Dealing
pub mod Gains
pub mod Parts
pub mod Popped
pub mod PutSteps
pub mod RingGains
