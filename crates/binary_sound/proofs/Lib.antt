pub mod Judgement
pub mod Parts
pub mod Lines
pub mod Content
pub mod Sound
pub mod Refusals
pub mod HeadUnused
