-- For proofs alone: what those of single functions cite.
pub mod OneWay
pub mod Search
