-- The definitions that the contracts cite.
pub mod Replies
pub mod Sheets
pub mod Verdicts
pub mod Listings
pub mod Drawings
pub mod Tallies
