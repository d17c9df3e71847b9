pub mod Tests
pub mod Standing
pub mod Making
pub mod Kinds
pub mod Calls
pub mod History
