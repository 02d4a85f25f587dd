-- What the contracts of `bits` cite, and the laws that join masks and shifts to it.
pub mod Choice
pub mod Conditions
pub mod Bits
pub mod Laws
