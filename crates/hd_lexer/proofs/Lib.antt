pub mod Skipping
pub mod Magnitudes
pub mod Turns
pub mod Runs
pub mod Values
pub mod Numbers
pub mod Writing
pub mod Cutting
