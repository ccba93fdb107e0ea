pub mod Bounds
pub mod Tiles
