pub mod Appending
pub mod Filling
pub mod Keeping
pub mod Placing
pub mod Refusals
pub mod ScenePaths
pub mod Sharing
pub mod Showing
