-- Definitions: how much of a buffer was read.
use Rattle.std.specs.Prelude.{ℕ, ◌+◌, ◌≤◌, Result, Ok, Err}
use Rattle.std.specs.declared.io.Error.{Error}

-- the bytes that came, from a place on, stand within the buffer
abbrev pub Within : ℕ → ℕ → Result ℕ Error → Type 0
Within at length (Ok count) = at + count ≤ length
Within at length (Err why) = Unit {0}
