pub mod AlphaSteps
pub mod BandSteps
pub mod CoverSteps
pub mod KeptSteps
