-- How long the parts of a line are, what stands behind them, and lines by hand.
pub mod Lengths
pub mod Behind
pub mod ByHand
