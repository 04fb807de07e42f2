-- A run of calls: phases come round and phases that never do, the events of the run, and what demand 3 says of them.
pub mod Lags
pub mod Round
pub mod Runs
pub mod History
pub mod Stamps
pub mod Vector
pub mod Learnt
pub mod Contract
pub mod Demand
pub mod Picture
