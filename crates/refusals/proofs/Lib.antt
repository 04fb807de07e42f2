-- The laws of refusals.
pub mod First
pub mod Slots
pub mod Grants
pub mod Started
