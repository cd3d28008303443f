pub mod Each
pub mod Valid
pub mod Parts
pub mod Rules
pub mod Stated
pub mod Refusals
