pub mod Spelled
pub mod Places
pub mod Numbers
pub mod Judging
pub mod Putting
pub mod Walks
pub mod Copying
