pub mod Sizes
pub mod Weighing
pub mod Laying
pub mod Stepping
pub mod Checking
pub mod Walking
