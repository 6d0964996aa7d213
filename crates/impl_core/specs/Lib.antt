pub mod Drawings
pub mod Origins
pub mod Handovers
pub mod Replies
pub mod inner
