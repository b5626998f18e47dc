-- what has to be believed, in reading order
pub mod Word
pub mod Script
pub mod Nearest
pub mod Layers
pub mod Region
pub mod Scan
-- what only private functions and proofs use
pub mod private
