pub mod Index
pub mod Laws
pub mod Reports
pub mod inner
