pub mod Indexes
pub mod Steps
