pub mod Appending
pub mod Cuts
pub mod Finding
pub mod Offering
pub mod Pieces
pub mod Placing
pub mod WholeFiles
