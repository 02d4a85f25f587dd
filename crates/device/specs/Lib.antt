-- What the contracts of `device` cite, and the theorems on it.
pub mod Reset
pub mod Device
pub mod Laws
pub mod Replies
pub mod Settled
