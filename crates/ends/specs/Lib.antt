-- How the program meets its ends.
pub mod Ends
