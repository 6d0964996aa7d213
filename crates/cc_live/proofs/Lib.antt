pub mod ToldInputs
pub mod ToldRuns
pub mod MainSides
pub mod RightPictures
pub mod MainEnds
pub mod PaintedPages
pub mod StandingScrollers
