pub mod Rectangles
pub mod Planes
pub mod Distances
