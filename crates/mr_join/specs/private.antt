pub mod Pairing
pub mod Sweeping
pub mod MeetsLaws
pub mod Frames
pub mod Answers
pub mod Parts
pub mod Worths
pub mod Judging
