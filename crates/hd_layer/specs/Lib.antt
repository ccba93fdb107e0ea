pub mod Limits
pub mod WellFormed
pub mod Edits
