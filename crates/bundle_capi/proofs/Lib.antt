pub mod Entering
pub mod Updating
