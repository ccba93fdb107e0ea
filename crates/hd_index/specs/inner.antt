pub mod Jobs
pub mod NoPrims
