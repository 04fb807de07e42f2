-- Texts as bytes, numbers in them, texts written into a buffer, and what a stream of lines prints.
pub mod Words
pub mod Digits
pub mod Put
pub mod Stream
