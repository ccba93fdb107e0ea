pub mod Layered
pub mod KindsOf
pub mod Editing
pub mod Unnested
pub mod Composing
pub mod Counted
pub mod Strongest
