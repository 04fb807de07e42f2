-- What a function asks of a book before it makes a desk's new row, and rows merged.
pub mod Rows
