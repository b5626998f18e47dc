pub mod PageLaws
pub mod HeadLaws
pub mod ManyReads
pub mod ViewPages
pub mod BothWays
pub mod Lists
pub mod Rules
pub mod Chains
pub mod Building
pub mod AsRead
mod Fitting
pub mod Agreement
mod Numbered
pub mod SavedStands
mod Walks
pub mod Giving
pub mod Visits
mod Links
mod Placing
mod Meeting
mod Steps
mod Stops
mod Outcomes
pub mod Judged
mod Short
pub mod Filled
pub mod PageReads
mod FrontReads
mod Put
mod Laying
pub mod Answered
mod Written
mod Fronts
pub mod Imaged
mod InPieces
pub mod LeafEntries
mod Rooted
pub mod Fits
pub mod Copies
mod Copied
