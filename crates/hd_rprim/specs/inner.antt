pub mod Equality
pub mod Places
