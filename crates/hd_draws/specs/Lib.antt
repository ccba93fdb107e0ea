pub mod Cameras
pub mod DrawList
pub mod Laws
pub mod Placements
pub mod inner
