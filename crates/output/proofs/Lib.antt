pub mod Laws
pub mod Room
pub mod Serve
pub mod Backwards
pub mod Copies
