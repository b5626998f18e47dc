pub mod Radius
pub mod Circles
