pub mod Facts
pub mod HeadLaws
pub mod Requests
pub mod RequestHeads
pub mod ResponseHeads
pub mod ResponseTurns
pub mod ResponseLaws
pub mod Values
