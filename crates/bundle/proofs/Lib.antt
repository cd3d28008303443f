pub mod Messages
pub mod Heads
pub mod Walks
pub mod Lists
