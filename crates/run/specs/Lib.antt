-- What the contracts of `run` cite, in the order of document 01's "Event file and refusal numbers", and what the theorems on it
-- (`proofs/`) speak of.
pub mod Lines
pub mod Run
pub mod Cursor
pub mod Laws
pub mod Theorems
