pub mod Together
pub mod Conforming
pub mod Apart
pub mod Places
pub mod Naming
