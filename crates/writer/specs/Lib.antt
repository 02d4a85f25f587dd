-- What the contracts of `writer` cite, of document 01's "Event file and refusal numbers", and the theorems on it.
pub mod Writing
pub mod Theorems
