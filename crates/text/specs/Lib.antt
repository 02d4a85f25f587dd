-- What the contracts of `text` cite, and the laws and theorems on numbers in decimal.
pub mod Text
pub mod Laws
pub mod Theorems
