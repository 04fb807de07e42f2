-- Slices that are lent.
pub mod Slices
