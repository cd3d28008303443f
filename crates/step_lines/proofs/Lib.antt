pub mod Tells
pub mod Opening
pub mod Fields
pub mod Moving
pub mod Counting
