-- The lines of the listing, and what they ask for.
pub mod Lines
pub mod Written
