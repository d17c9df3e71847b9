pub mod Meaning
pub mod Lowest
pub mod Steps
pub mod Lists
pub mod Standing
pub mod Runs
