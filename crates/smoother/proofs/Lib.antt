-- The lemmas of this crate.
pub mod Behind
mod Dots
mod Piling
mod Places
mod Sizes
mod Totals
