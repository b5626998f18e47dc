pub mod Digests
pub mod Reading
pub mod Spelling
pub mod Journals
pub mod Asking
pub mod BundleLines
pub mod InPlace
