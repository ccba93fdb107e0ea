pub mod Lookups
pub mod Places
pub mod Apart
pub mod Putting
pub mod Sorting
pub mod OpNames
pub mod Conforming
pub mod Valued
