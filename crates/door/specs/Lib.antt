-- What the C interface adds to the calls: values in lent buffers.
pub mod Door
