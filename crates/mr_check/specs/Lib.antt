pub mod Answers
pub mod Versions
pub mod Whole
pub mod private
pub mod Judged
