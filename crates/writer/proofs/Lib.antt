-- What the proofs of single functions cite.
pub mod Table
