-- The lemmas of this crate.
mod Crossing
mod Reading
mod Sizes
mod Turning
mod Writing
