pub mod States
pub mod Heads
pub mod Bodies
pub mod Steps
pub mod Standing
pub mod Claim
pub mod Runs
