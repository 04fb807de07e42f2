-- What an answer looks like as a line.
pub mod Print
