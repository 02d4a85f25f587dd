-- What the proofs of the lent step and of a drain share, and further laws of a drain (`Emptied`).
pub mod Stored
pub mod Reading
pub mod Parts
pub mod Emptied
pub mod HandedOn
pub mod Fewer
pub mod Between
