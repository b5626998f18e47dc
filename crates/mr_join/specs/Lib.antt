-- what has to be believed
pub mod Meets
pub mod Pairs
pub mod FrameRules
pub mod Frame
pub mod Verdict
pub mod Parts
pub mod Accepted
pub mod Finding
pub mod Causes
pub mod Fetches
-- what only private functions and proofs use
pub mod private
