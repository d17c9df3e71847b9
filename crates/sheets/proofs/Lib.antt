-- Lemmas by subject.
pub mod Basics
pub mod Digits
pub mod Cuts
pub mod HeightLines
pub mod Walks
pub mod Numerals
pub mod Exactness
pub mod ExactProfiles
pub mod PassLines
pub mod Filling
pub mod ExactSchedules
mod Examples
