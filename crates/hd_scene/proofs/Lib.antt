pub mod Prefixes
pub mod Telling
pub mod Ascending
pub mod Children
pub mod Closing
pub mod Steps
pub mod Walking
pub mod EachPrim
