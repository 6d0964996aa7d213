pub mod Behind
pub mod Judgements
pub mod Rightness
pub mod Sheets
