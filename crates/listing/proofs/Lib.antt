-- Lemmas by subject.
pub mod Puts
pub mod Widths
pub mod Rows
pub mod Lining
pub mod RoundedTurns
pub mod Turning
pub mod Finding
pub mod Answering
pub mod Bounds
mod Examples
