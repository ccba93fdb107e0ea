pub mod Targets
pub mod Instanced
pub mod Scenes
pub mod Laws
pub mod inner
