pub mod Entries
pub mod Stream
pub mod Listed
