pub mod Examples
pub mod Computing
pub mod Changes
pub mod Numbers
pub mod Rows
