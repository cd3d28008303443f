pub mod Placed
pub mod Lines
pub mod Sections
pub mod Keeping
pub mod Body
pub mod Messages
pub mod Back
pub mod Samples
