pub mod Best
pub mod Choice
pub mod Seeds
pub mod Split
