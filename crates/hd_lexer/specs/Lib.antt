pub mod Lexing
pub mod Decimals
pub mod Exact
pub mod Laws
pub mod inner
