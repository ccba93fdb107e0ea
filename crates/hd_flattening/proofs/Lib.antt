pub mod Placing
pub mod Building
pub mod Walking
pub mod Conforming
pub mod Inherits
pub mod FlatSchema
