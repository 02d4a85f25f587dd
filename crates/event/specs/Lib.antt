-- What the contracts of `event` cite: the refusals by document 01's numbers, and its "Events and replies". `Laws` is proved of them.
pub mod Refusals
pub mod Kinds
pub mod Events
pub mod Laws
