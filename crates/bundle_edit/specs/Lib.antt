pub mod Calls
pub mod Append
pub mod Changes
pub mod Delivery
