-- what has to be believed, in reading order
pub mod Decimal
pub mod Lines
pub mod Results
pub mod Version
pub mod Record
pub mod RecordField
pub mod Rules
pub mod LineTexts
pub mod RecordText
pub mod Answer
pub mod Sorting
-- what only private functions and proofs use
pub mod private
