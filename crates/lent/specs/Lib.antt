-- What the contracts of `lent` cite. `Laws` and `DrainLaws` are proved of it.
pub mod Lent
pub mod Drain
pub mod Reads
pub mod Laws
pub mod DrainLaws
