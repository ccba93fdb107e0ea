pub mod Faults
pub mod Lines
pub mod Fields
pub mod Commands
pub mod WellFormed
pub mod Laws
pub mod inner
