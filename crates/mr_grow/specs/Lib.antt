-- what has to be believed, in reading order
pub mod Parts
pub mod Grow
pub mod Found
pub mod Refused
pub mod Shrink
pub mod Dropped
-- what only private functions and proofs use
pub mod Views
pub mod private
