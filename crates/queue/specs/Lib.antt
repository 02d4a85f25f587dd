-- Definitions that the contracts of `queue` cite and a reader has to believe, and the laws proved of them, which may be used.
pub mod Change
pub mod Queue
pub mod List
pub mod Laws
