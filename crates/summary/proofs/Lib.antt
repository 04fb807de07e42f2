-- Laws of summaries.
pub mod ByHand
pub mod Lanes
pub mod Written
pub mod Right
pub mod Asked
pub mod Foretold
pub mod Bounded
