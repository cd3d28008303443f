pub mod Heads
pub mod Rest
pub mod Whole
pub mod Requests
pub mod Responses
