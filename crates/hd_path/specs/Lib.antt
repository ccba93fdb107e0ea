pub mod Names
pub mod Paths
pub mod Faults
pub mod Parsing
pub mod Changes
pub mod Texts
pub mod Laws
pub mod inner
