pub mod Seats
pub mod Causes
pub mod Writing
pub mod MainTurns
pub mod WorkTurns
pub mod inner
