pub mod Answers
pub mod Laws
pub mod States
pub mod Steps
