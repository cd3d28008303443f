pub mod Reading
pub mod Appending
pub mod Listing
pub mod Keeping
pub mod Sweeping
pub mod Salvaging
pub mod Demands
pub mod Table
