-- Definitions: "The writer gives an event's bytes, five at most, with their count, places past the count 0; for a refused
-- event none, a count of 0 and the refusal number."
use Rattle.std.specs.Prelude.{ℕ, ◌-◌, ◌≡◌, Bool, List, ◌++◌, length, drop, replicate, leb, Ok, Err}
use Rattle.bits.specs.Choice.{pick}
use Rattle.event.specs.declared.events.Event.{Event}
use Rattle.event.specs.Events.{Made}
use Rattle.event.specs.Refusals.{refusal_number, refused_answer}
use Rattle.file.specs.Form.{bytes_of}
use Rattle.writer.specs.declared.Written.{Written}

unfoldable pub padded : List ℕ → Written
padded bytes = record { bytes = bytes ++ replicate (5 - length bytes) 0; count = length bytes; refusal = 0 }

unfoldable pub whole_of : Event → Written
whole_of e = padded (bytes_of e)

unfoldable pub written_of : Made → Written
written_of (Ok e) = whole_of e
written_of (Err r) = record { bytes = replicate 5 0; count = 0; refusal = refusal_number r }

-- ---- an event's bytes put at the start of a buffer where they fit
abbrev pub fits_in : Event → ℕ → Bool
fits_in e room = leb (length (bytes_of e)) room

-- the answer: their count, 0 where they don't fit, 512 and the refusal number for a refused event
unfoldable pub put_answer : Made → ℕ → ℕ
put_answer (Ok e) room = pick (fits_in e room) (length (bytes_of e)) 0
put_answer (Err r) room = refused_answer (refusal_number r)

-- the buffer afterwards: what stands behind them is as it was, and all of it where none are put
unfoldable pub put_into : Made → List ℕ → List ℕ
put_into (Ok e) out = pick (fits_in e (length out)) (bytes_of e ++ drop (length (bytes_of e)) out) out
put_into (Err r) out = out

-- the two together, of a buffer before and after
abbrev pub Put : List ℕ → Made → List ℕ → ℕ → Type 0
Put before m after answer = (answer ≡ put_answer m (length before)) × (after ≡ put_into m before)
