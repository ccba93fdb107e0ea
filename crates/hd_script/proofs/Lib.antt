pub mod Cutting
pub mod Digits
pub mod Causes
pub mod PathCauses
