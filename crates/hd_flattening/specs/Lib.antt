pub mod Values
pub mod Local
pub mod Flat
pub mod Flattened
pub mod Scenes
pub mod Laws
pub mod inner
