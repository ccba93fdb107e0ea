pub mod FreePlaces
