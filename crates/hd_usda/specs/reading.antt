pub mod Cursor
pub mod Loops
pub mod Words
