pub mod Comparing
pub mod TextPrefixes
