-- A fresh book, as far as it is written.
pub mod Written
