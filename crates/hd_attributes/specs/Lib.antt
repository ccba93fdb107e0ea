pub mod Attributes
pub mod Inherited
pub mod Instances
pub mod Rows
pub mod Laws
