-- The laws of lent buffers.
pub mod Given
