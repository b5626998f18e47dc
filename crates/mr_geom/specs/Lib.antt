pub mod Rectangle
pub mod Plane
pub mod Distance
