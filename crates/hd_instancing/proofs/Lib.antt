pub mod Pairs
pub mod Prefixed
pub mod Marked
