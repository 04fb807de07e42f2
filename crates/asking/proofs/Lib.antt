-- The laws of the calls that ask.
pub mod Slots
pub mod Accepted
