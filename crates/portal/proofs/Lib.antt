-- The laws of the calls.
pub mod Acts
pub mod Asked
