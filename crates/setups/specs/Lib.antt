-- The tests that the code asks of a setup's numbers.
pub mod Bounds
