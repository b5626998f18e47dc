pub mod WholeRecords
pub mod HonestChoices
pub mod Fitting
pub mod Findings
pub mod InsideCounts
pub mod Rules
