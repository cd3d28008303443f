pub mod Stepping
pub mod Entries
