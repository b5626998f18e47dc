-- what has to be believed, in reading order
pub mod Bundle
pub mod Proofs
pub mod Verdicts
