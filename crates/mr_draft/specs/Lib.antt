pub mod Sheets
pub mod private
pub mod Draft
