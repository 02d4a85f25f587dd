-- What the contracts of `interrupts` cite, in the order of document 01.
pub mod Interrupts
pub mod Flags
pub mod Laws
