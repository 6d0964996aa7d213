pub mod Covering
pub mod JoinedLists
