pub mod Gains
pub mod KeptPictures
pub mod QuietEvents
mod NextEntries
mod PictureFiles
mod Places
mod ShownImages
