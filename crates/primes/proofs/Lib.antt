pub mod Halves
pub mod Records
pub mod Standing
pub mod Taking
pub mod Verdict
pub mod Order
