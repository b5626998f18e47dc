pub mod Ranks
pub mod Merging
pub mod Levels
pub mod Marks
pub mod Corners
pub mod Meeting
