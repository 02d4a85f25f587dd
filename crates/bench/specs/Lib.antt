-- What the contracts of `bench` cite.
pub mod Program
