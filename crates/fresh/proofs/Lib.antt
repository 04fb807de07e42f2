-- The laws of a fresh book.
pub mod Written
