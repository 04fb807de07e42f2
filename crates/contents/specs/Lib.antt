-- What the parts of the sound check tell.
pub mod Checks
