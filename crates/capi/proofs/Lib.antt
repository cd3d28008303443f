pub mod Giving
pub mod Entering
pub mod RequestEntry
pub mod MessageEntry
pub mod Serving
