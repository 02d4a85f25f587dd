-- What the contracts of `file` cite, in the order of document 01's "Event file and refusal numbers", and what the theorems on it
-- (`proofs/`) speak of.
pub mod Numbers
pub mod Reading
pub mod Form
pub mod Whole
pub mod Laws
pub mod Files
