pub mod Placed
pub mod Refusal
pub mod Sound
