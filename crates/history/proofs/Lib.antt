-- The theorems: demand 3 of every log, that a channel is left alone, what a drain gives, the rules that judge and device share, what
-- holds of every record, what looks leave alone, Xon and Xoff; and what is shown of the contracts themselves.
pub mod Tally
pub mod Seen
pub mod Agreement
pub mod Order
pub mod Proved
pub mod Alone
pub mod Numbers
pub mod Files
pub mod Drains
pub mod Lent
pub mod Rules
pub mod Records
pub mod Looks
pub mod Pause
pub mod Determined
