pub mod Between
pub mod ClearBits
pub mod Keeping
pub mod Tracking
