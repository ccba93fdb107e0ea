pub mod Names
pub mod Kinds
pub mod Locators
pub mod Properties
pub mod Tables
