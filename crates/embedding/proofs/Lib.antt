-- Lemmas by subject.
pub mod Tallies
pub mod Counting
