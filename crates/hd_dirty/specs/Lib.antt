pub mod Bits
pub mod Kinds
pub mod Laws
