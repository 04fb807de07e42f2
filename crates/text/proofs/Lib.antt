-- Laws of numbers in texts, of writing and of streams.
pub mod Numerals
pub mod Writing
pub mod Streams
