pub mod Paging
pub mod PartLaws
pub mod Ids
pub mod Told
pub mod Laws
pub mod Walk
pub mod Listing
