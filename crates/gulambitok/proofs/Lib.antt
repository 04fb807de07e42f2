-- Laws of calls through the C interface.
pub mod Called
pub mod Filed
