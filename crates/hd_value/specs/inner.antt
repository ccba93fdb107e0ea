pub mod Depths
pub mod Entries
pub mod Falls
pub mod Overlays
