pub mod reading
pub mod used
pub mod grammar
pub mod Layer
pub mod Statement
pub mod Laws
pub mod inner
