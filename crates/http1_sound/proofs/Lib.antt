pub mod Front
pub mod Rules
pub mod Lines
pub mod Sections
pub mod Closing
pub mod Sound
pub mod Refusals
