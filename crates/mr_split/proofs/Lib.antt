pub mod Champion
pub mod Comparing
pub mod Pairing
pub mod Steps
pub mod Counts
