-- What a stream of lines does.
pub mod Feeding
