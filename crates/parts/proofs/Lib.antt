-- The laws of bytes that are written.
pub mod Lent
