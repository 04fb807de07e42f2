-- The laws of new rows.
pub mod Rows
