-- Laws: a run ends, its answers are counted from 0, an input too long is only refused, and buffers filled one after the other
-- hold its text.
use Prim.Native.Nat.{ℕ, zero, suc, ◌+◌, ◌/◌, ◌<◌, ◌≤◌}
use native.Mathlib.Omega.{arith}
use Rattle.std.specs.Prelude.{◌≡◌, true, false, length, take, None, Some, Ok, Err}
use Rattle.std.proofs.Math.Path.{refl, sym, ap}
use Rattle.std.proofs.Common.{◌∙◌, length-append}
use mathlib.Core.List.{List, [], ◌∷◌, ◌++◌, append-nil}
use Rattle.std.proofs.Math.Seq.{take-append_seam}
use Rattle.event.specs.declared.refusal.Refusal.TheVariants as refusal
use Rattle.file.specs.Reading.{Standing, read_at}
use Rattle.file.specs.Laws.{ReadingFrom}
use Rattle.file.proofs.Laws.{reading_from, long_refused, past_the_end}
use Rattle.device.specs.declared.device.Device.{Device}
use Rattle.device.specs.Reset.{new_device}
use Rattle.device.specs.Device.{answered_of}
use Rattle.run.specs.declared.cursor.Cursor.{Cursor}
use Rattle.run.specs.declared.cursor.Filled.{Filled}
use Rattle.text.specs.Text.{last_digits, decimal, line_with}
use Rattle.text.specs.Laws.{below_or_not}
use Rattle.run.specs.Lines.{line_of}
use Rattle.run.specs.Run.{run_by, run_from, run_up_to, run_of, lines_of, text_of}
use Rattle.run.specs.Cursor.{new_cursor, ended_at, progress_by, text_said, text_in, cursor_after, filled_by}
use Rattle.run.specs.Laws.{left}
use Rattle.run.proofs.Laws.{going_progress, over_silent, cursor_sum, text_sum, over_after}
use Rattle.run.specs.Theorems.{CountedFrom, RoomInEach, cursor_after_fills, lines_in, text_of_fills}

-- ---- every run ends: as many steps as there are bytes are enough, and more change nothing
module _ (s : List ℕ) where
  -- two counts give the same answers by a reading if they do from any place after it
  same_by : (j k at index : ℕ) (d : Device) (r : Standing) → ReadingFrom s at r
      → ((next i : ℕ) (e : Device) → at < next → run_from j s next i e ≡ run_from k s next i e)
      → run_by (run_from j s) index d r ≡ run_by (run_from k s) index d r
  same_by j k at index d (Ok (Some read)) from same = rw (same read.next (index + 1) (answered_of d read.event).device from.0)
  same_by j k at index d (Err r) from same = refl
  same_by j k at index d (Ok None) from same = refl

  short_enough : length s ≤ 65536 → (j k at index : ℕ) (d : Device) → length s ≤ at + j → length s ≤ at + k
      → run_from j s at index d ≡ run_from k s at index d
  unfolding run_from
  short_enough short zero zero at index d few_j few_k = refl
  short_enough short zero (suc k) at index d few_j few_k = rw (past_the_end s at short (omega arith))
  short_enough short (suc j) zero at index d few_j few_k = rw (past_the_end s at short (omega arith))
  short_enough short (suc j) (suc k) at index d few_j few_k =
      same_by j k at index d (read_at s at) (reading_from s at)
      (λ next i e past. short_enough short j k next i e (omega arith) (omega arith))

  long_enough : 65536 < length s → (k : ℕ) → 0 < k → run_up_to k s ≡ record { index = 0; answer = Err refusal.Long } ∷ []
  unfolding run_from
  long_enough long zero some = absurd (omega arith)
  long_enough long (suc k) some = rw (long_refused s 0 long)

  pub every_run_ends : (k : ℕ) → length s ≤ k → run_up_to k s ≡ run_of s
  unfolding run_of
  every_run_ends k few =
      below_or_not 65536 (length s)
      (λ long. long_enough long k (omega arith) ∙ sym (long_enough long (length s) (omega arith)))
      (λ short. short_enough short k (length s) 0 0 new_device (omega arith) (omega arith))

  most_by : (k index : ℕ) (d : Device) (r : Standing) → ((next i : ℕ) (e : Device) → length (run_from k s next i e) ≤ k)
      → length (run_by (run_from k s) index d r) ≤ suc k
  most_by k index d (Ok (Some read)) most = omega (arith, most read.next (index + 1) (answered_of d read.event).device)
  most_by k index d (Err r) most = omega arith
  most_by k index d (Ok None) most = omega arith

  at_most : (k at index : ℕ) (d : Device) → length (run_from k s at index d) ≤ k
  unfolding run_from
  at_most zero at index d = omega arith
  at_most (suc k) at index d = most_by k index d (read_at s at) (λ next i e. at_most k next i e)

  pub no_more_answers_than_bytes : length (run_of s) ≤ length s
  unfolding run_of
  no_more_answers_than_bytes = at_most (length s) 0 0 new_device

module _ (s : List ℕ) where
  counted_by : (k index : ℕ) (d : Device) (r : Standing) → ((next i : ℕ) (e : Device) → CountedFrom i (run_from k s next i e))
      → CountedFrom index (run_by (run_from k s) index d r)
  counted_by k index d (Ok (Some read)) counted = (refl, counted read.next (index + 1) (answered_of d read.event).device)
  counted_by k index d (Err r) counted = (refl, tt)
  counted_by k index d (Ok None) counted = tt

  counted : (k at index : ℕ) (d : Device) → CountedFrom index (run_from k s at index d)
  unfolding run_from
  counted zero at index d = tt
  counted (suc k) at index d = counted_by k index d (read_at s at) (λ next i e. counted k next i e)

  pub counted_from_zero : CountedFrom 0 (run_of s)
  unfolding run_of
  counted_from_zero = counted (length s) 0 0 new_device

-- ---- "An empty file gives no lines."
pub empty_input : text_of [] ≡ []
unfolding text_of run_of run_from lines_of
empty_input = refl

-- ---- "For 9 it prints only "0 REFUSED 9"."
pub long_input : (s : List ℕ) → 65536 < length s
    → text_of s ≡ 48 ∷ 32 ∷ 82 ∷ 69 ∷ 70 ∷ 85 ∷ 83 ∷ 69 ∷ 68 ∷ 32 ∷ 57 ∷ 10 ∷ []
unfolding text_of run_of lines_of line_of line_with decimal last_digits
long_input s long = rw (long_enough s long (length s) (omega arith))

-- ---- a run taken step by step says the text of its answers
module _ (s : List ℕ) where
  said_by : (n : ℕ) (c : Cursor) (r : Standing)
      → ((e : Cursor) → e.over ≡ false → text_in n s e ≡ lines_of (run_from n s e.place e.index e.device))
      → text_said c.index (progress_by c r).said ++ text_in n s (progress_by c r).cursor
      ≡ lines_of (run_by (run_from n s) c.index c.device r)
  unfolding text_said lines_of
  said_by n c (Ok (Some read)) same = rw (same (progress_by c (Ok (Some read))).cursor refl)
  said_by n c (Err r) same = rw (over_silent s n (ended_at c) refl)
  said_by n c (Ok None) same = over_silent s n (ended_at c) refl

  steps_say_the_answers : (n : ℕ) (c : Cursor) → c.over ≡ false
      → text_in n s c ≡ lines_of (run_from n s c.place c.index c.device)
  unfolding text_in run_from lines_of
  steps_say_the_answers zero c going = refl
  steps_say_the_answers (suc n) c going =
      rw (going_progress s c going) (said_by n c (read_at s c.place) (λ e after. steps_say_the_answers n e after))

  pub steps_are_the_text : (n : ℕ) → length s ≤ n → text_in n s new_cursor ≡ text_of s
  unfolding text_of new_cursor
  steps_are_the_text n few = steps_say_the_answers n new_cursor refl ∙ ap lines_of (every_run_ends s n few)

  -- once the run is over the text is whole
  pub over_is_whole : (n : ℕ) → (cursor_after n s new_cursor).over ≡ true → text_in n s new_cursor ≡ text_of s
  over_is_whole n over =
      sym (text_sum s n (length s) new_cursor ∙ rw (over_silent s (length s) (cursor_after n s new_cursor) over, append-nil))
      ∙ steps_are_the_text (n + length s) (omega arith)

-- a filled buffer holds up to the count the text of its lines
pub front_is_the_text : (n : ℕ) (s : List ℕ) (c : Cursor) (rest : List ℕ) → take (filled_by n s c).count (text_in n s c ++ rest) ≡ text_in n s c
unfolding filled_by
front_is_the_text n s c rest = take-append_seam (text_in n s c) rest

-- so that the count is within the buffer
pub count_within : (n : ℕ) (s : List ℕ) (c : Cursor) (filled : Filled) (out rest : List ℕ)
    → filled ≡ filled_by n s c → out ≡ text_in n s c ++ rest → filled.count ≤ length out
unfolding filled_by
count_within n s c filled out rest is holds = rw (is, holds, length-append) (omega arith)

module _ (s : List ℕ) where
  fills_are_steps : (buffers : List ℕ) (c : Cursor)
      → (text_of_fills buffers s c ≡ text_in (lines_in buffers) s c) × (cursor_after_fills buffers s c ≡ cursor_after (lines_in buffers) s c)
  unfolding text_of_fills cursor_after_fills text_in cursor_after filled_by
  fills_are_steps [] c = (refl, refl)
  fills_are_steps (bytes ∷ more) c =
      let rest = fills_are_steps more (cursor_after (bytes / 16) s c) in (
        rw rest.0 (sym (text_sum s (bytes / 16) (lines_in more) c)),
        rest.1 ∙ sym (cursor_sum s (bytes / 16) (lines_in more) c),
      )

  a_line_in_each : (buffers : List ℕ) → RoomInEach buffers → length buffers ≤ lines_in buffers
  a_line_in_each [] room = omega arith
  a_line_in_each (bytes ∷ more) room = omega (arith, room.0, a_line_in_each more room.1)

  -- whatever their sizes, they hold the whole text and nothing else once the run is over
  pub fills_are_the_text : (buffers : List ℕ) → (cursor_after_fills buffers s new_cursor).over ≡ true → text_of_fills buffers s new_cursor ≡ text_of s
  fills_are_the_text buffers over =
      let steps = fills_are_steps buffers new_cursor in
      steps.0 ∙ over_is_whole s (lines_in buffers) (rw steps.1 at over)

  new_left : left s new_cursor ≡ suc (length s)
  unfolding new_cursor
  new_left = omega arith

  -- and with room for a line in each, one more of them than the input has bytes ends the run
  pub fills_end : (buffers : List ℕ) → RoomInEach buffers → length s < length buffers → (cursor_after_fills buffers s new_cursor).over ≡ true
  fills_end buffers room many =
      rw (fills_are_steps buffers new_cursor).1
      (over_after s (lines_in buffers) new_cursor (omega (arith, new_left, a_line_in_each buffers room)))
