pub mod PropertyViews
pub mod PrimViews
