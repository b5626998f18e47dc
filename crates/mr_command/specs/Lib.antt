pub mod Counting
pub mod Answer
pub mod Shown
pub mod Ending
pub mod private
