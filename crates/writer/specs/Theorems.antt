-- Laws: what the writer gives is five bytes at most, the bytes of the event, and reads back; and so is what is put into a buffer.
use Rattle.std.specs.Prelude.{ℕ, zero, suc, ◌+◌, ◌-◌, ◌<◌, ◌≤◌, ◌≡◌, refl, Bool, true, false, List, ◌++◌, length, get_or, take, drop, replicate, Ok, Err}
use Rattle.std.proofs.Common.{arith, ◌∙◌, length-append, get_or-append-add, le-leb}
use Rattle.std.proofs.lemmas.List.{length-replicate}
use Rattle.std.proofs.lemmas.Slice.{drop-append-drop}
use Rattle.std.proofs.Math.Seq.{take-append_seam}
use Rattle.bits.specs.Choice.{pick}
use Rattle.event.specs.declared.events.Event.{Event}
use Rattle.event.specs.Events.{event_of, Made}
use Rattle.event.specs.Laws.{made_in_range}
use Rattle.file.specs.Reading.{read_at, read_event}
use Rattle.file.specs.Form.{bytes_of}
use Rattle.file.proofs.Laws.{bytes_at_most_five}
use Rattle.file.proofs.Theorems.{bytes_read_back}
use Rattle.writer.specs.declared.Written.{Written}
use Rattle.writer.specs.Writing.{padded, whole_of, written_of, fits_in, put_answer, put_into, Put}

-- "The writer gives an event's bytes, five at most, with their count, places past the count 0"
abbrev pub FiveAtMost : Written → Type 0
FiveAtMost w = (length w.bytes ≡ 5) × (w.count ≤ 5) × ((i : ℕ) → w.count ≤ i → get_or w.bytes i 0 ≡ 0)

all_zero : (n i : ℕ) → get_or {A = ℕ} (replicate n 0) i 0 ≡ 0
all_zero zero i = refl
all_zero (suc n) zero = refl
all_zero (suc n) (suc i) = all_zero n i

padded_five : (l : List ℕ) → length l ≤ 5 → FiveAtMost (padded l)
unfolding padded
padded_five l few = (
  simp (length-append, length-replicate) (omega arith),
  few,
  λ i past.
      let place : length l + (i - length l) ≡ i = omega arith in
      rw (← place) (get_or-append-add l (replicate (5 - length l) 0) (i - length l) 0 ∙ all_zero (5 - length l) (i - length l)),
)

pub written_five_at_most : (kind x y z : ℕ) → FiveAtMost (written_of (event_of kind x y z))
unfolding written_of whole_of
written_five_at_most kind x y z = go (event_of kind x y z) refl
  where
    go : (m : Made) → event_of kind x y z ≡ m → FiveAtMost (written_of m)
    go (Ok e) made = padded_five (bytes_of e) (bytes_at_most_five e (made_in_range kind x y z made))
    go (Err r) made = (refl, omega arith, λ i past. all_zero 5 i)

-- the bytes that the writer gives for numbers, up to its count, are the bytes of the event that they make
pub written_bytes : (kind x y z : ℕ) {e : Event} → event_of kind x y z ≡ Ok e
    → (take (written_of (event_of kind x y z)).count (written_of (event_of kind x y z)).bytes ≡ bytes_of e)
    × ((written_of (event_of kind x y z)).count ≡ length (bytes_of e))
unfolding written_of whole_of padded
written_bytes kind x y z {e} made = rw made (take-append_seam (bytes_of e) _, refl)

-- they read back as that event, whatever stands before them and after
pub written_reads_back : (s : List ℕ) (at kind x y z : ℕ) {e : Event} (rest : List ℕ) → length s ≤ 65536 → event_of kind x y z ≡ Ok e
    → drop at s ≡ take (written_of (event_of kind x y z)).count (written_of (event_of kind x y z)).bytes ++ rest
    → read_at s at ≡ read_event e (at + (written_of (event_of kind x y z)).count)
written_reads_back s at kind x y z {e} rest short made stands =
    rw (written_bytes kind x y z made).1
    (bytes_read_back s at e rest short (made_in_range kind x y z made) (rw (written_bytes kind x y z made).0 at stands))

-- ---- of a buffer before and after, and the answer: no place is written past five, nor a count told above it
abbrev pub PutFiveAtMost : List ℕ → List ℕ → ℕ → Type 0
PutFiveAtMost before after answer = (answer < 512 → answer ≤ 5) × (drop 5 after ≡ drop 5 before)

put_or_not : (fits : Bool) (count : ℕ) (put before : List ℕ) → count ≤ 5 → drop 5 put ≡ drop 5 before
    → (pick fits count 0 ≤ 5) × (drop 5 (pick fits put before) ≡ drop 5 before)
put_or_not true count put before few same = (few, same)
put_or_not false count put before few same = (omega arith, refl)

five_put : (before after : List ℕ) (answer : ℕ) (m : Made) → ((e : Event) → m ≡ Ok e → length (bytes_of e) ≤ 5)
    → Put before m after answer → PutFiveAtMost before after answer
unfolding put_answer put_into
five_put before after answer (Ok e) few put =
    let behind = drop-append-drop (length (bytes_of e)) before (bytes_of e) 5 (few e refl) refl in
    let both = put_or_not (fits_in e (length before)) _ _ _ (few e refl) behind in
    (λ told. rw put.0 both.0, rw put.1 both.1)
five_put before after answer (Err r) few put = (λ told. omega (arith, put.0), rw put.1 refl)

-- ---- what is put at the start of a buffer for the event that numbers make
module _ (kind x y z : ℕ) (before after : List ℕ) (answer : ℕ) (put : Put before (event_of kind x y z) after answer) where
  abbrev written : Written
  written = written_of (event_of kind x y z)

  -- where it fits, it is what the writer gives, and what stood behind stays
  pub put_written : {e : Event} → event_of kind x y z ≡ Ok e → length (bytes_of e) ≤ length before
      → (answer ≡ written.count) × (after ≡ take written.count written.bytes ++ drop written.count before)
  unfolding put_answer put_into
  put_written {e} made fits =
      let bytes = written_bytes kind x y z made in
      let is : Put before (Ok e) after answer = rw made at put in
      rw (bytes.0, bytes.1) (rw (le-leb (length (bytes_of e)) (length before) fits) at is)

  -- five bytes at most, whether an event comes of the numbers or a refusal
  pub put_five_at_most : PutFiveAtMost before after answer
  put_five_at_most = five_put before after answer (event_of kind x y z) (λ e made. bytes_at_most_five e (made_in_range kind x y z made)) put

  -- the bytes of the event, where they fit, and behind them what stood there
  pub put_bytes : {e : Event} → event_of kind x y z ≡ Ok e → length (bytes_of e) ≤ length before
      → (take answer after ≡ bytes_of e) × (answer ≡ length (bytes_of e)) × (drop answer after ≡ drop answer before)
  put_bytes {e} made fits =
      let puts = put_written made fits in
      let bytes = written_bytes kind x y z made in
      rw (puts.1, puts.0, bytes.0, bytes.1)
      (take-append_seam (bytes_of e) _, refl, drop-append-drop (length (bytes_of e)) before (bytes_of e) (length (bytes_of e)) (omega arith) refl)

  -- they read back as that event, whatever stands before them and after
  pub put_reads_back : (s : List ℕ) (at : ℕ) {e : Event} (rest : List ℕ) → length s ≤ 65536 → event_of kind x y z ≡ Ok e
      → length (bytes_of e) ≤ length before → drop at s ≡ take answer after ++ rest → read_at s at ≡ read_event e (at + answer)
  put_reads_back s at {e} rest short made fits stands =
      let puts = put_bytes made fits in
      rw puts.1 (bytes_read_back s at e rest short (made_in_range kind x y z made) (rw puts.0 at stands))
