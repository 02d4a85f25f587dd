-- What the contracts of `acts` cite, in the order of an event, and the laws of it.
pub mod Touches
pub mod Acts
pub mod Step
pub mod Laws
pub mod Settled
pub mod Pause
pub mod Turns
pub mod Rest
