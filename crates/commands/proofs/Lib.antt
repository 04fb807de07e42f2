-- Lines that are read by hand, and laws of lines.
pub mod ByHand
pub mod Shapes
pub mod Starts
pub mod Exact
