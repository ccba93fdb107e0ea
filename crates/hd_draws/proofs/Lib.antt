pub mod Copies
pub mod RowDraws
pub mod DrawLaws
pub mod FarPoints
pub mod Nearness
pub mod Pushing
pub mod Rows
