pub mod Layers
pub mod Edits
pub mod Laws
pub mod inner
