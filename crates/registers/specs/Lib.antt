-- What the contracts of `registers` cite, of document 01's "Register windows" and of document 02's Xon and Xoff.
pub mod Windows
pub mod Writes
pub mod Pairs
pub mod Bounds
pub mod Laws
