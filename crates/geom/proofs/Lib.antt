pub mod Blocks
pub mod Covering
pub mod Cuts
pub mod KeyLists
pub mod KeyOrders
pub mod Meets
pub mod Runs
pub mod Spans
