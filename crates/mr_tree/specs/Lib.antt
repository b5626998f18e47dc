-- what has to be believed, in reading order
pub mod Limits
pub mod Tree
pub mod WellFormed
pub mod Digest
pub mod Leaves
pub mod Hash
pub mod View
pub mod HasHashed
pub mod Nodes
pub mod Snapshot
-- what only private functions and proofs use
pub mod private
