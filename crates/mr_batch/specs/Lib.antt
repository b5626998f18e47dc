-- what has to be believed, in reading order
pub mod Changes
pub mod Earlier
pub mod BatchText
pub mod Answer
pub mod Applied
pub mod Admissible
pub mod Directory
pub mod Replay
pub mod Peak
pub mod Refusing
pub mod Workload
-- what only private functions and proofs use
pub mod private
