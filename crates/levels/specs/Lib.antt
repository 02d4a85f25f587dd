-- What the contracts of `levels` cite, of document 01's "Receive queue", "Transmit side" and "Trigger levels".
pub mod Queues
pub mod Levels
pub mod Laws
