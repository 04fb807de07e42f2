-- The bytes of a book, when they are sound, what they say, and what every call answers and leaves.
pub mod Layout
pub mod Sound
pub mod Codec
pub mod Fits
pub mod Stamps
pub mod Answers
pub mod Numbers
