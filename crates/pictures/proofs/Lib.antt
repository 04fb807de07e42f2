-- Laws of the stamps of a list.
pub mod Reached
pub mod Ways
pub mod Placed
pub mod Judged
pub mod Asked
