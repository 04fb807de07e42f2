-- Records that are freed, and rows that are kept.
pub mod Freed
pub mod Kept
