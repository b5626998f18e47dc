pub mod Cuts
pub mod Entries
pub mod HalfFull
pub mod Least
pub mod Pack
pub mod Repeats
pub mod Twice
pub mod private
