-- The definitions that the contracts cite.
pub mod Putting
pub mod Listing
pub mod Listings
pub mod Rejections
