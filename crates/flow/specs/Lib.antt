-- What the contracts of `flow` cite, of document 02's Xon and Xoff, and the laws of it.
pub mod Flow
pub mod Laws
