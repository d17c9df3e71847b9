-- Lemmas by subject.
pub mod Partings
pub mod Levels
