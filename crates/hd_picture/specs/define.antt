pub mod Coverage
pub mod Depth
pub mod Pixels
pub mod View
