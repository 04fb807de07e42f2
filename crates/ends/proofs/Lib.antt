-- Laws of the program at its ends.
pub mod Reasons
