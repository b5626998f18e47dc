pub mod Rises
pub mod Taking
pub mod Pieces
pub mod Changes
pub mod NamedFiles
