pub mod Kinds
pub mod Terminals
