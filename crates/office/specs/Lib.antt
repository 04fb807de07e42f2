-- The office: changes of the book with the papers beside it.
pub mod Papers
pub mod Office
