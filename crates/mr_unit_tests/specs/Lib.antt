pub mod Beside
pub mod Outside
