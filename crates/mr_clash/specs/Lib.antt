-- what has to be believed
pub mod Finding
pub mod QuestionFindings
pub mod Causes
-- what only private functions and proofs use
pub mod private
