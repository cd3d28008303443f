pub mod Turn
pub mod Question
