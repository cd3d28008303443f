pub mod Judgement
pub mod Parts
pub mod Lines
pub mod Keeping
pub mod Messages
pub mod Back
pub mod Apart
pub mod Samples
