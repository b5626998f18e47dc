pub mod Asked
pub mod Layouts
pub mod Promises
pub mod Run
