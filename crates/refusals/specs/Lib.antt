-- What the numbers of the calls ask first.
pub mod First
pub mod Grants
