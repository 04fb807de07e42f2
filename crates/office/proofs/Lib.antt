-- Laws of the office.
pub mod Papers
pub mod Filed
pub mod Office
