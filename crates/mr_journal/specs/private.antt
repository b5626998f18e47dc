pub mod Parsed
pub mod Progress
pub mod FileChanges
pub mod Traced
pub mod ReplacedLaws
pub mod TornLaws
pub mod MemoryLaws
pub mod ShelfLaws
