pub mod Hosts
pub mod Jobs
pub mod Occasions
pub mod Trees
pub mod inner
