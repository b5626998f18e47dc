-- what has to be believed
pub mod Chosen
pub mod Inside
pub mod Accepted
pub mod Finding
-- what only private functions and proofs use
pub mod private
