-- Laws: what is written of an event reads back, what reads as an event stands there in the one written form, and reading moves forward.
use Rattle.std.specs.Prelude.{ℕ, ◌+◌, ◌<◌, ◌≤◌, ◌≡◌, List, ◌++◌, length, drop, Err}
use Rattle.std.proofs.Common.{arith, ap, length-append, length-drop}
use Rattle.event.specs.declared.refusal.Refusal.{Refusal}
use Rattle.event.specs.declared.events.Event.{Event}
use Rattle.event.specs.Refusals.{refusal_number}
use Rattle.event.specs.Events.{numbers_of, judged_of, InRange}
use Rattle.event.specs.Laws.{in_range_judged, in_range_known}
use Rattle.file.specs.Reading.{read_at, read_event, read_refused}
use Rattle.file.specs.Form.{bytes_of}
use Rattle.file.specs.Whole.{standing_at}
use Rattle.file.specs.Laws.{Bytes, ReadingFrom}
use Rattle.file.proofs.Laws.{numbers_back, bytes_of_made, reading_from}

module _ (s : List ℕ) (at : ℕ) where
  -- the bytes of an event read back as that event, whatever stands before them and after
  pub bytes_read_back : (e : Event) (rest : List ℕ) → length s ≤ 65536 → InRange e → drop at s ≡ bytes_of e ++ rest
      → read_at s at ≡ read_event e (at + length (bytes_of e))
  unfolding judged_of bytes_of
  bytes_read_back e rest short range stands =
      rw (in_range_judged e range) at (numbers_back s at (numbers_of e) rest short (in_range_known e range).1 stands).1

  -- whatever reads as an event is, byte for byte, what the writer writes for it
  pub one_written_form : {e : Event} {next : ℕ} → Bytes s → read_at s at ≡ read_event e next
      → (drop at s ≡ bytes_of e ++ drop next s) × (next ≡ at + length (bytes_of e))
  one_written_form {e} {next} bytes read =
      let from : ReadingFrom s at (read_event e next) = rw read at (reading_from s at) in
      let stands : drop at s ≡ bytes_of e ++ drop next s = rw (bytes_of_made (standing_at s at) e from.3.1) (from.3.2 bytes) in
      (stands, omega (arith, simp (length-drop, length-append) at (ap length stands)))

  -- an event and a refused one end past their place and inside the input
  pub reading_moves_forward : (next : ℕ)
      → ((e : Event) → read_at s at ≡ read_event e next → (at < next) × (next ≤ length s))
      × ((r : Refusal) → read_at s at ≡ read_refused r next → (at < next) × (next ≤ length s))
  reading_moves_forward next = (
    λ e read. let from : ReadingFrom s at (read_event e next) = rw read at (reading_from s at) in (from.0, from.1),
    λ r read. let from : ReadingFrom s at (read_refused r next) = rw read at (reading_from s at) in (from.0, from.1),
  )

  pub read_in_range : {e : Event} {next : ℕ} → read_at s at ≡ read_event e next → InRange e
  read_in_range {e} {next} read = (rw read at (reading_from s at)).2

  -- the refusals after which the next event is read are 4 to 8, and those that end the run 1, 2, 3 and 9
  pub refusals_by_outcome : (r : Refusal)
      → ((next : ℕ) → read_at s at ≡ read_refused r next → (4 ≤ refusal_number r) × (refusal_number r ≤ 8))
      × (read_at s at ≡ Err r → 3 < refusal_number r → refusal_number r ≡ 9)
  refusals_by_outcome r = (
    λ next read. let from : ReadingFrom s at (read_refused r next) = rw read at (reading_from s at) in from.2,
    λ read. rw read at (reading_from s at),
  )
