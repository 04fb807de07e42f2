-- What a picture needs of the bytes of a book.
pub mod Froms
pub mod Pairs
