pub mod Bundles
pub mod Cutting
pub mod Refusals
pub mod Zipped
