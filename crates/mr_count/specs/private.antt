pub mod InsideLaws
pub mod Steps
