pub mod Merges
pub mod Merged
pub mod Laws
pub mod inner
