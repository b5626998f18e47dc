pub mod Remains
pub mod Views
