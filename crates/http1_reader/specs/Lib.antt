pub mod Readers
pub mod Responses
