pub mod Jobs
pub mod Uses
