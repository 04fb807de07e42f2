-- What the C functions of the office promise.
pub mod Filed
