-- The theorems on a run, and what the proofs of single functions cite.
pub mod Laws
pub mod Theorems
pub mod Filling
