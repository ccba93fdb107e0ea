pub mod Contents
pub mod Dumps
pub mod Lines
pub mod Texts
pub mod inner
