-- The laws of the reasons.
pub mod Held
pub mod Found
