-- The laws of the sound check.
pub mod Checks
