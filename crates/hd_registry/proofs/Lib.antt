pub mod Among
pub mod Collections
pub mod NewEntries
