-- The rules: setups, the answer table, books, calls and answers, and stamps off the book.
pub mod Setups
pub mod Numbers
pub mod Model
pub mod Frames
pub mod Calls
pub mod Labels
pub mod Replies
pub mod Due
