pub mod Reader
pub mod Read
