-- Stamp records, read and written, and what the calls off the book ask and hand back.
pub mod Records
pub mod Counts
pub mod Asked
