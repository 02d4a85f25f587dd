-- The theorems on event files.
pub mod Laws
pub mod Files
pub mod Theorems
