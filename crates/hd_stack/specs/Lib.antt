pub mod Stacks
pub mod Scenes
pub mod Laws
pub mod inner
