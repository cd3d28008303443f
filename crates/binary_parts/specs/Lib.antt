pub mod Section
pub mod Control
pub mod Content
