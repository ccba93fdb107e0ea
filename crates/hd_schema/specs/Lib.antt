pub mod Places
pub mod Colors
pub mod OpValues
pub mod Values
pub mod Authored
pub mod inner
