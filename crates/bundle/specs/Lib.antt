pub mod Bundle
pub mod Answers
pub mod Salvage
