-- Demand 3: the judge and the claims are what a reader must believe. Then the words of what is proved beside them (`proofs/`), and P1
-- to P12.
pub mod Judge
pub mod Demand3
pub mod Tally
pub mod Seen
pub mod Agreement
pub mod Order
pub mod Reads
pub mod Numbers
pub mod Files
pub mod Drains
pub mod Lent
pub mod Rules
pub mod Records
pub mod Looks
pub mod Pause
pub mod Table
