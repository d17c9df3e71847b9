-- The definitions that the contracts cite.
pub mod Parting
pub mod Asking
pub mod Answering
