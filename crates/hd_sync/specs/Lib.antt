pub mod Syncing
pub mod inner
