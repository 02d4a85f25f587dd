-- Definitions: what the laws in `proofs/Laws` say of what was read: it is bytes, it ends inside the input, and it stands there as
-- it is written.
use Rattle.std.specs.Prelude.{ℕ, ◌<◌, ◌≤◌, ◌≡◌, get_or, None, Some, Ok, Err}
use mathlib.Core.List.{List, ◌++◌}
use Rattle.std.proofs.Math.ListN.{length, drop}
use Rattle.event.specs.Refusals.{refusal_number}
use Rattle.event.specs.Events.{made_of, InRange, Made}
use Rattle.event.specs.Laws.{Small}
use Rattle.file.specs.Reading.{Standing}
use Rattle.file.specs.Form.{number_bytes}
use Rattle.file.specs.Whole.{standing_at}

-- ---- a number or an operand that was read: it ends inside the input, and in a list of bytes it stands there as it is written
abbrev pub Bytes : List ℕ → Type 0
Bytes s = (i : ℕ) → get_or s i 0 < 256

-- ---- what was read is what the numbers come to that stand there, as they are written: an event in range, or a refusal of 4 to 8 for one
-- passed over; a refusal that ends the run is 1, 2, 3 or 9, and at the end nothing is left
abbrev pub Stands : List ℕ → ℕ → Made → ℕ → Type 0
Stands s at m next = Small (standing_at s at) × (made_of (standing_at s at) ≡ m) × (Bytes s → drop at s ≡ number_bytes (standing_at s at) ++ drop next s)

abbrev pub OutcomeIn : Made → Type 0
OutcomeIn (Ok e) = InRange e
OutcomeIn (Err r) = (4 ≤ refusal_number r) × (refusal_number r ≤ 8)

abbrev pub ReadingFrom : List ℕ → ℕ → Standing → Type 0
ReadingFrom s at (Ok (Some read)) = (at < read.next) × (read.next ≤ length s) × OutcomeIn read.event × Stands s at read.event read.next
ReadingFrom s at (Err r) = 3 < refusal_number r → refusal_number r ≡ 9
ReadingFrom s at (Ok None) = length s ≤ at
