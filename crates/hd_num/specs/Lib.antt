pub mod Laws
pub mod Lists
pub mod Matrices
pub mod Ops
pub mod Points
pub mod Turns
