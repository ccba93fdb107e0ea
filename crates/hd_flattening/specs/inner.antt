pub mod Inheriting
pub mod FlatLocators
