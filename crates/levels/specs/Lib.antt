pub mod Drawing
pub mod Walks
