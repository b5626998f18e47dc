pub mod Padding
pub mod Numbers
pub mod Gathered
pub mod Fronts
