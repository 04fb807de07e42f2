-- What the calls that ask need of the bytes of a book.
pub mod Slots
