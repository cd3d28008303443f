pub mod Appends
pub mod Counting
pub mod Sweeping
