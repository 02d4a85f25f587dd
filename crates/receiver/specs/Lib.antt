-- What the contracts of `receiver` cite, of document 01's "Receive queue", and the bounds that an event keeps.
pub mod Arrivals
pub mod Line
pub mod Laws
