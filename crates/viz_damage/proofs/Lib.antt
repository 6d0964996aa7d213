pub mod AreaSteps
pub mod ListSteps
pub mod MovedSteps
pub mod Moving
pub mod PassSteps
pub mod QuadSteps
pub mod SceneSteps
pub mod Scenes
