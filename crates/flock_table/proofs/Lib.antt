pub mod Tabulated
pub mod Counted
