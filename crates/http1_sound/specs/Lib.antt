pub mod Front
pub mod Read
