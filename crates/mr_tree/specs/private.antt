pub mod Slim
pub mod Sound
pub mod HashLaws
pub mod Fed
pub mod SnapshotLaws
