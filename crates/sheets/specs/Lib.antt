-- The definitions that the contracts cite.
pub mod Faults
pub mod Numbers
pub mod Tokens
pub mod Lines
pub mod Profiles
pub mod ScheduleSheets
pub mod Writing
