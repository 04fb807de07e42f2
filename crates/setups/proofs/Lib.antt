-- Laws of a setup's numbers.
pub mod Bounds
