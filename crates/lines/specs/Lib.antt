-- What the contracts of `lines` cite, in the order of document 01, and the bounds that an event keeps.
pub mod Transmit
pub mod Rts
pub mod Modem
pub mod Laws
