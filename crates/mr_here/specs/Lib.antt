pub mod Layers
pub mod Updated
pub mod Crashes
pub mod OnFiles
pub mod private
