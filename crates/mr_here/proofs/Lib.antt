pub mod Layered
pub mod InMemory
pub mod Beside
pub mod Moments
pub mod Answering
pub mod OnShelf
