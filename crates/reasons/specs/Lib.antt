-- What the reasons ask of the bytes of a book.
pub mod Held
