pub mod Laws
pub mod Limits
pub mod Ppm
pub mod define
pub mod inner
pub mod raster
