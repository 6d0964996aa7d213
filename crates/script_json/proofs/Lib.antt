mod Behind
mod Objects
mod Nesting
mod CommandLaws
mod InputLaws
mod ItemLaws
mod Rows
mod Members
mod PrintedItems
mod CommandsBack
mod ScriptsBack
mod ReadCanonical
mod AnyVersion
mod Kept
pub mod Streams
mod ListsRead
mod ValuesReadBack
pub mod TextsReadBack
pub mod CanonicalTexts
pub mod Pixels
pub mod ScriptLaws
pub mod OneAnswer
