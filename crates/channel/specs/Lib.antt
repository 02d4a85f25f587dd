-- What the contracts of `channel` cite: the record, what is seen of it, and what settles after an act. `Laws`
-- keeps it within its bounds.
pub mod State
pub mod Channel
pub mod Settle
pub mod Laws
