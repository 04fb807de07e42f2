-- Every case is answered as its lines say.
pub mod Cases
