-- Laws: whole files: one that is read to its end is, byte for byte, the one written form of the numbers that stand in it, and
-- what is written, one event behind the other, is read back, all of it and nothing else.
use Prim.Native.Nat.{ℕ, zero, suc, ◌+◌, ◌<◌, ◌≤◌}
use Rattle.std.proofs.Common.{arith, ◌∙◌, le-leb}
use Rattle.std.specs.Prelude.{◌≡◌, ltb, get_or, None, Some, Ok, Err}
use Rattle.std.proofs.Math.Path.{refl, sym, ap}
use mathlib.Core.List.{List, [], ◌∷◌, map}
use Rattle.std.proofs.Math.ListN.{length, drop, length-drop, drop_of_length-le}
use Rattle.bits.specs.Choice.{pick_by}
use Rattle.event.specs.declared.events.Event.{Event}
use Rattle.event.specs.Events.{Numbers, numbers_of, made_of, judged_of, Made}
use Rattle.event.specs.Laws.{in_range_known}
use Rattle.file.specs.Reading.{Standing, placed, read_at}
use Rattle.file.specs.Form.{number_bytes}
use Rattle.file.specs.Whole.{numbers_written, events_written, standing_at, numbers_then, numbers_from, reading_then, history_from, end_then, end_from, numbers_in, history_of, end_of}
use Rattle.file.specs.Laws.{Bytes, ReadingFrom}
use Rattle.file.proofs.Laws.{numbers_back, bytes_of_made, list_past, reading_from, past_the_end}
use Rattle.file.specs.Files.{AllInRange, AllSmall, ReadToItsEnd}

-- ---- what is read of a file is what the numbers in it come to
module _ (s : List ℕ) where
  made_from : (k at : ℕ) → history_from k s at ≡ map made_of (numbers_from k s at)
  unfolding history_from numbers_from
  made_from zero at = refl
  made_from (suc k) at = go (made_from k) (read_at s at) (reading_from s at)
    where
      go : ((at : ℕ) → history_from k s at ≡ map made_of (numbers_from k s at)) → (r : Standing) → ReadingFrom s at r
          → reading_then (history_from k s) r ≡ map made_of (numbers_then (standing_at s at) (numbers_from k s) r)
      go rest (Ok (Some read)) from = rw (rest read.next) (ap (λ (m : Made). m ∷ map made_of (numbers_from k s read.next)) (sym from.3.1))
      go rest (Err r) from = refl
      go rest (Ok None) from = refl

  pub history_of_numbers : history_of s ≡ map made_of (numbers_in s)
  unfolding numbers_in
  history_of_numbers = made_from (length s) 0

  -- they are such as a file can have
  small_from : (k at : ℕ) → AllSmall (numbers_from k s at)
  unfolding numbers_from
  small_from zero at = tt
  small_from (suc k) at = go (small_from k) (read_at s at) (reading_from s at)
    where
      go : ((at : ℕ) → AllSmall (numbers_from k s at)) → (r : Standing) → ReadingFrom s at r
          → AllSmall (numbers_then (standing_at s at) (numbers_from k s) r)
      go rest (Ok (Some read)) from = (from.3.0, rest read.next)
      go rest (Err r) from = tt
      go rest (Ok None) from = tt

  pub numbers_in_small : AllSmall (numbers_in s)
  unfolding numbers_in
  numbers_in_small = small_from (length s) 0

  -- a file that is read to its end is, byte for byte, the numbers that stand in it as they are written, those of refused events too
  written_from : Bytes s → (k at : ℕ) → length s ≤ at + k → end_from k s at ≡ [] → drop at s ≡ numbers_written (numbers_from k s at)
  unfolding end_from numbers_from
  written_from bytes zero at few whole = drop_of_length-le s {i = at} (omega arith)
  written_from bytes (suc k) at few whole = go (written_from bytes k) (read_at s at) (reading_from s at) whole
    where
      go : ((at : ℕ) → length s ≤ at + k → end_from k s at ≡ [] → drop at s ≡ numbers_written (numbers_from k s at))
          → (r : Standing) → ReadingFrom s at r → end_then (end_from k s) r ≡ []
          → drop at s ≡ numbers_written (numbers_then (standing_at s at) (numbers_from k s) r)
      go rest (Ok (Some read)) from whole = rw (← rest read.next (omega (arith, from.0)) whole) (from.3.2 bytes)
      go rest (Err r) from whole = absurd (omega (arith, ap length whole))
      go rest (Ok None) from whole = drop_of_length-le s from

  pub file_of_numbers : ReadToItsEnd s → s ≡ numbers_written (numbers_in s)
  unfolding numbers_in
  file_of_numbers whole = written_from whole.0 (length s) 0 (omega arith) whole.1

-- so two of them in which the same numbers stand are the same bytes
pub same_numbers_same_file : (s t : List ℕ) → ReadToItsEnd s → ReadToItsEnd t → numbers_in s ≡ numbers_in t → s ≡ t
same_numbers_same_file s t whole_s whole_t same = file_of_numbers s whole_s ∙ rw same (sym (file_of_numbers t whole_t))

-- where no event is refused, a file is what the writer writes for the events
same_written : (numbers : List Numbers) (events : List Event) → map made_of numbers ≡ map Ok events
    → numbers_written numbers ≡ events_written events
same_written [] [] same = refl
same_written [] (e ∷ events) same = absurd (omega (arith, ap length same))
same_written (n ∷ numbers) [] same = absurd (omega (arith, ap length same))
same_written (n ∷ numbers) (e ∷ events) same =
    rw (bytes_of_made n e (ap (λ (l : List Made). get_or l 0 (Ok e)) same), same_written numbers events (ap (drop 1) same))

pub file_of_events : (s : List ℕ) (events : List Event) → ReadToItsEnd s → history_of s ≡ map Ok events → s ≡ events_written events
file_of_events s events whole read =
    file_of_numbers s whole ∙ same_written (numbers_in s) events (sym (history_of_numbers s) ∙ read)

pub same_events_same_file : (s t : List ℕ) (events : List Event) → ReadToItsEnd s → ReadToItsEnd t
    → history_of s ≡ map Ok events → history_of t ≡ map Ok events → s ≡ t
same_events_same_file s t events whole_s whole_t read_s read_t =
    file_of_events s events whole_s read_s ∙ sym (file_of_events t events whole_t read_t)

-- ---- as many steps as there are bytes are enough, and more change nothing
module _ (s : List ℕ) where
  none_past : (k at : ℕ) → length s ≤ at → history_from k s at ≡ []
  unfolding history_from read_at
  none_past zero at past = refl
  none_past (suc k) at past =
      rw (le-leb (length s) at past)
      (pick_by (λ (r : Standing). reading_then (history_from k s) r ≡ []) (ltb 65536 (length s)) (λ _. refl) (λ _. refl))

  same_from : (j k at : ℕ) → length s ≤ at + j → length s ≤ at + k → history_from j s at ≡ history_from k s at
  unfolding history_from
  same_from zero k at few_j few_k = sym (none_past k at (omega arith))
  same_from (suc j) zero at few_j few_k = none_past (suc j) at (omega arith)
  same_from (suc j) (suc k) at few_j few_k = go (same_from j k) (read_at s at) (reading_from s at)
    where
      go : ((at : ℕ) → length s ≤ at + j → length s ≤ at + k → history_from j s at ≡ history_from k s at) → (r : Standing) → ReadingFrom s at r
          → reading_then (history_from j s) r ≡ reading_then (history_from k s) r
      go same (Ok (Some read)) from = rw (same read.next (omega (arith, from.0)) (omega (arith, from.0)))
      go same (Err r) from = refl
      go same (Ok None) from = refl

  pub every_history_ends : (k : ℕ) → length s ≤ k → history_from k s 0 ≡ history_of s
  every_history_ends k few = same_from k (length s) 0 (omega arith) (omega arith)

-- ---- and what is written one behind the other, up to 65,536 bytes, is read back, all of it and nothing else
module _ (s : List ℕ) (short : length s ≤ 65536) where
  back_from : (numbers : List Numbers) → AllSmall numbers → (k at : ℕ) → length s ≤ at + k → drop at s ≡ numbers_written numbers
      → (numbers_from k s at ≡ numbers) × (end_from k s at ≡ [])
  unfolding numbers_from end_from
  back_from [] small zero at few stands = (refl, refl)
  back_from [] small (suc k) at few stands = rw (past_the_end s at short (omega (arith, length-drop at s, ap length stands))) (refl, refl)
  back_from (n ∷ numbers) small k at few stands =
      let back = numbers_back s at n _ short small.0 stands in
      let from = rw back.1 at (reading_from s at) in
      go k few (back_from numbers small.1) back (from.0, from.1)
    where
      go : (k : ℕ) → length s ≤ at + k
          → ((k at : ℕ) → length s ≤ at + k → drop at s ≡ numbers_written numbers → (numbers_from k s at ≡ numbers) × (end_from k s at ≡ []))
          → (standing_at s at ≡ n) × (read_at s at ≡ placed (made_of n) (at + length (number_bytes n)))
          → (at < at + length (number_bytes n)) × (at + length (number_bytes n) ≤ length s)
          → (numbers_from k s at ≡ n ∷ numbers) × (end_from k s at ≡ [])
      go zero few rest back inside = absurd (omega (arith, inside.0, inside.1))
      go (suc k) few rest back inside =
          let then = rest k (at + length (number_bytes n)) (omega (arith, inside.0)) (list_past s at (number_bytes n) _ stands) in
          rw (back.0, back.1) (ap (λ (l : List Numbers). n ∷ l) then.0, then.1)

-- so a file that is read to its end and the numbers in it tell each other
pub written_numbers_read_back : (numbers : List Numbers) → AllSmall numbers → length (numbers_written numbers) ≤ 65536
    → (numbers_in (numbers_written numbers) ≡ numbers) × (end_of (numbers_written numbers) ≡ [])
unfolding numbers_in
written_numbers_read_back numbers small short =
    back_from (numbers_written numbers) short numbers small (length (numbers_written numbers)) 0 (omega arith) refl

their_numbers : (events : List Event) → AllInRange events
    → AllSmall (map numbers_of events) × (map made_of (map numbers_of events) ≡ map Ok events)
unfolding judged_of
their_numbers [] range = (tt, refl)
their_numbers (e ∷ events) range =
    let known = in_range_known e range.0 in
    let rest = their_numbers events range.1 in
    ((known.1, rest.0), rw (known.0, rest.1))

pub written_events_read_back : (events : List Event) → AllInRange events → length (events_written events) ≤ 65536
    → (history_of (events_written events) ≡ map Ok events) × (end_of (events_written events) ≡ [])
written_events_read_back events range short =
    let numbers : List Numbers = map numbers_of events in
    let known = their_numbers events range in
    let written : numbers_written numbers ≡ events_written events = same_written numbers events known.1 in
    let back = written_numbers_read_back numbers known.0 (rw written short) in
    rw (← written) (history_of_numbers (numbers_written numbers) ∙ rw back.0 known.1, back.1)
