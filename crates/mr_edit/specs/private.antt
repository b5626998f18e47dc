pub mod Blaming
pub mod Removal
pub mod Removable
