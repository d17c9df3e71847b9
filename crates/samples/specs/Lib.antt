-- The definitions that the contracts cite.
pub mod Refusals
pub mod Answers
pub mod Finders
