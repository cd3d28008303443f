pub mod Stops
pub mod Section
pub mod Content
pub mod Chunk
