-- Laws: what follows from the definitions: how long a line can be, and a run taken step by step.
use Prim.Native.Nat.{ℕ, zero, suc, ◌+◌, ◌-◌, ◌<◌, ◌≤◌}
use Rattle.std.proofs.Math.Nat.{zero-add, suc-add}
use native.Mathlib.Omega.{arith}
use Rattle.std.specs.Prelude.{◌≡◌, Bool, length, None, Some, Ok, Err}
use Rattle.std.proofs.Math.Path.{refl, ap}
use Rattle.std.proofs.Common.{◌∙◌}
use Rattle.std.proofs.Math.Bool.{true, false}
use mathlib.Core.List.{List, [], ◌++◌, append-nil, append_assoc}
use Rattle.bits.specs.Choice.{pick, pick_by}
use Rattle.event.specs.declared.refusal.Refusal.{Refusal}
use Rattle.event.specs.declared.refusal.Refusal.TheVariants as refusal
use Rattle.event.specs.declared.events.Event.{Event}
use Rattle.event.specs.Refusals.{refusal_number}
use Rattle.event.specs.Events.{Made, judged_of}
use Rattle.event.specs.Laws.{in_range_judged}
use Rattle.file.specs.declared.reading.Reading.{Reading}
use Rattle.file.specs.Reading.{Standing, read_at}
use Rattle.file.specs.Laws.{OutcomeIn, ReadingFrom}
use Rattle.file.proofs.Laws.{reading_from, long_refused}
use Rattle.device.specs.Laws.{MadeIn, well_formed_new, well_formed_answered}
use Rattle.run.specs.declared.cursor.Cursor.{Cursor}
use Rattle.run.specs.declared.cursor.Progress.{Progress}
use Rattle.text.specs.Text.{line_with}
use Rattle.text.specs.Laws.{below_or_not, one_digit, five_digits, line_length}
use Rattle.run.specs.Lines.{okay, refused}
use Rattle.run.specs.Cursor.{WellFormed, new_cursor, progress_by, progress_of, text_said, text_in, cursor_after}
use Rattle.run.specs.Laws.{left}

-- ---- a line takes sixteen bytes at most
pub okay_length : (index reply : ℕ) → index ≤ 65536 → reply < 65536 → length (line_with index okay reply) ≤ 16
okay_length index reply i r = rw line_length (omega (arith, five_digits index (omega arith), five_digits reply (omega arith)))

refusal_digit : (r : Refusal) → refusal_number r < 10
refusal_digit refusal.Number = omega arith
refusal_digit refusal.Short = omega arith
refusal_digit refusal.Kind = omega arith
refusal_digit refusal.Channel = omega arith
refusal_digit refusal.Address = omega arith
refusal_digit refusal.Byte = omega arith
refusal_digit refusal.Mark = omega arith
refusal_digit refusal.Pins = omega arith
refusal_digit refusal.Long = omega arith

pub refused_length : (index : ℕ) (r : Refusal) → index ≤ 65536 → length (line_with index refused (refusal_number r)) ≤ 16
refused_length index r i =
    rw line_length (omega (arith, five_digits index (omega arith), one_digit (refusal_number r) (refusal_digit r)))

-- ---- an event that was read is the one that is judged
pub read_judged : (s : List ℕ) (at : ℕ) (read : Reading) {e : Event} → read_at s at ≡ Ok (Some read) → read.event ≡ Ok e → judged_of e ≡ Ok e
read_judged s at read {e} is event =
    let from : ReadingFrom s at (Ok (Some read)) = rw is at (reading_from s at) in
    in_range_judged e (rw event at from.2)

-- and what was read is in range or refused, as a step asks
pub outcome_made : (m : Made) → OutcomeIn m → MadeIn m
outcome_made (Ok e) range = range
outcome_made (Err r) range = tt

-- ---- every step keeps the cursor well formed
pub well_formed_new_cursor : WellFormed new_cursor
unfolding new_cursor
well_formed_new_cursor = record { device_in = well_formed_new; index_in = omega arith; place_in = omega arith }

module _ (s : List ℕ) (c : Cursor) (ok : WellFormed c) where
  well_formed_by : length s ≤ 65536 → (r : Standing) → ReadingFrom s c.place r → WellFormed (progress_by c r).cursor
  well_formed_by short (Ok (Some read)) from =
      record {
        device_in = well_formed_answered c.device read.event (outcome_made read.event from.2) ok.device_in;
        index_in = omega (arith, ok.index_in, from.0);
        place_in = omega (arith, from.1);
      }
  well_formed_by short (Err r) from = record { device_in = ok.device_in; index_in = ok.index_in; place_in = ok.place_in }
  well_formed_by short (Ok None) from = record { device_in = ok.device_in; index_in = ok.index_in; place_in = ok.place_in }

  pub well_formed_progress : WellFormed (progress_of s c).cursor
  unfolding progress_of
  well_formed_progress =
      pick_by (λ (p : Progress). WellFormed p.cursor) c.over (λ _. ok)
      (λ _.
      below_or_not 65536 (length s)
      (λ long. rw (long_refused s c.place long) (record { device_in = ok.device_in; index_in = ok.index_in; place_in = ok.place_in }))
      (λ short. well_formed_by short (read_at s c.place) (reading_from s c.place)))

pub well_formed_after : (n : ℕ) (s : List ℕ) (c : Cursor) → WellFormed c → WellFormed (cursor_after n s c)
unfolding cursor_after
well_formed_after zero s c ok = ok
well_formed_after (suc n) s c ok = well_formed_after n s (progress_of s c).cursor (well_formed_progress s c ok)

-- ---- a run that is over says nothing more and stays as it is
module _ (s : List ℕ) where
  over_progress : (c : Cursor) → c.over ≡ true → progress_of s c ≡ record { cursor = c; said = None }
  unfolding progress_of
  over_progress c over =
      ap (λ (b : Bool). pick b (record { cursor = c; said = None }) (progress_by c (read_at s c.place))) over

  pub going_progress : (c : Cursor) → c.over ≡ false → progress_of s c ≡ progress_by c (read_at s c.place)
  unfolding progress_of
  going_progress c going =
      ap (λ (b : Bool). pick b (record { cursor = c; said = None }) (progress_by c (read_at s c.place))) going

  pub going_cursor : (n : ℕ) (c : Cursor) → c.over ≡ false → cursor_after (suc n) s c ≡ cursor_after n s (progress_by c (read_at s c.place)).cursor
  unfolding cursor_after
  going_cursor n c going = ap (λ (p : Progress). cursor_after n s p.cursor) (going_progress c going)

  pub over_still : (n : ℕ) (c : Cursor) → c.over ≡ true → cursor_after n s c ≡ c
  unfolding cursor_after
  over_still zero c over = refl
  over_still (suc n) c over = rw (over_progress c over) (over_still n c over)

  pub over_silent : (n : ℕ) (c : Cursor) → c.over ≡ true → text_in n s c ≡ []
  unfolding text_in text_said
  over_silent zero c over = refl
  over_silent (suc n) c over = rw (over_progress c over) (over_silent n c over)

  -- ---- some steps and then some more are as many together
  pub cursor_sum : (m n : ℕ) (c : Cursor) → cursor_after (m + n) s c ≡ cursor_after n s (cursor_after m s c)
  unfolding cursor_after
  cursor_sum zero n c = rw zero-add
  cursor_sum (suc m) n c = rw suc-add (cursor_sum m n (progress_of s c).cursor)

  pub text_sum : (m n : ℕ) (c : Cursor) → text_in (m + n) s c ≡ text_in m s c ++ text_in n s (cursor_after m s c)
  unfolding text_in cursor_after
  text_sum zero n c = rw zero-add
  text_sum (suc m) n c = rw (suc-add, text_sum m n (progress_of s c).cursor, append_assoc)

  pub cursor_more : (n : ℕ) (c : Cursor) → cursor_after (n + 1) s c ≡ (progress_of s (cursor_after n s c)).cursor
  unfolding cursor_after
  cursor_more n c = cursor_sum n 1 c

  pub text_more : (n : ℕ) (c : Cursor)
      → text_in (n + 1) s c ≡ text_in n s c ++ text_said (cursor_after n s c).index (progress_of s (cursor_after n s c)).said
  unfolding text_in
  text_more n c = text_sum n 1 c ∙ rw append-nil

module _ (s : List ℕ) where
  nearer_by : (c : Cursor) (r : Standing) → ReadingFrom s c.place r → left s (progress_by c r).cursor < suc (length s - c.place)
  nearer_by c (Ok (Some read)) from = omega (arith, from.0, from.1)
  nearer_by c (Err r) from = omega arith
  nearer_by c (Ok None) from = omega arith

  -- every step of a run that is not over brings it nearer to its end
  pub nearer : (c : Cursor) → c.over ≡ false → left s (progress_of s c).cursor < left s c
  nearer c going =
      rw (going_progress s c going)
      (omega (arith, nearer_by c (read_at s c.place) (reading_from s c.place), ap (λ (b : Bool). pick b 0 (suc (length s - c.place))) going))

  -- and no step takes it further away
  pub no_further : (c : Cursor) → left s (progress_of s c).cursor ≤ left s c
  no_further c = go c.over refl
    where
      go : (b : Bool) → c.over ≡ b → left s (progress_of s c).cursor ≤ left s c
      go true over = rw (over_progress s c over) (omega arith)
      go false going = omega (arith, nearer c going)

  pub no_further_after : (n : ℕ) (c : Cursor) → left s (cursor_after n s c) ≤ left s c
  unfolding cursor_after
  no_further_after zero c = omega arith
  no_further_after (suc n) c = omega (arith, no_further_after n (progress_of s c).cursor, no_further c)

  pub nearer_after : (n : ℕ) (c : Cursor) → 0 < n → c.over ≡ false → left s (cursor_after n s c) < left s c
  unfolding cursor_after
  nearer_after zero c some going = absurd (omega arith)
  nearer_after (suc n) c some going = omega (arith, no_further_after n (progress_of s c).cursor, nearer c going)

  over_by : (c : Cursor) → left s c ≡ 0 → c.over ≡ true
  over_by c none = go c.over refl
    where
      go : (b : Bool) → c.over ≡ b → b ≡ true
      go true over = refl
      go false going = absurd (omega (arith, none, ap (λ (b : Bool). pick b 0 (suc (length s - c.place))) going))

  over_after_over : (n : ℕ) (c : Cursor) → c.over ≡ true → (cursor_after n s c).over ≡ true
  over_after_over n c over = rw (over_still s n c over) over

  -- as many steps as are left end the run
  pub over_after : (n : ℕ) (c : Cursor) → left s c ≤ n → (cursor_after n s c).over ≡ true
  unfolding cursor_after
  over_after zero c few = over_by c (omega arith)
  over_after (suc n) c few = go c.over refl (over_after n (progress_of s c).cursor)
    where
      go : (b : Bool) → c.over ≡ b → (left s (progress_of s c).cursor ≤ n → (cursor_after n s (progress_of s c).cursor).over ≡ true)
          → (cursor_after n s (progress_of s c).cursor).over ≡ true
      go true over then = rw (over_progress s c over) (over_after_over n c over)
      go false going then = then (omega (arith, nearer c going))
