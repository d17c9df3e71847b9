-- The definitions that the contracts cite.
pub mod Answers
pub mod Piled
pub mod Rows
pub mod TapLists
pub mod Row
pub mod Limits
pub mod Passing
