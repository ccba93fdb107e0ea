pub mod Numbers
pub mod Elements
pub mod Targets
pub mod Values
