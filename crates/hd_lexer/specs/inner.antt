pub mod DecimalViews
pub mod Scanned
