-- Cases worked by hand, and the lines that answer them.
pub mod Cases
