pub mod Sizes
pub mod Shapes
pub mod Images
pub mod Quarters
pub mod Sums
pub mod Products
