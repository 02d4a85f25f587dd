-- For proofs alone: what those of single functions cite, here and of a buffer that is filled with lines.
pub mod Stores
pub mod Digits
pub mod Lines
