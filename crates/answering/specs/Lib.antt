-- What a line prints on a book, and the book that it leaves.
pub mod Answering
