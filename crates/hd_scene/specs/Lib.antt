pub mod Scenes
pub mod Filters
pub mod Tells
pub mod Laws
pub mod inner
