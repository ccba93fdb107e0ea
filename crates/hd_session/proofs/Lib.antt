pub mod Causes
pub mod Cuts
mod Doing
pub mod LawProofs
pub mod Serving
pub mod Sizes
