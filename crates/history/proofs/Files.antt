-- Laws: the run over an event file as a history: what is read of the input, one event after the other, is a history of events
-- in range and refused ones, the run's answers are the device's along it, and its last device is the one that it leaves. So
-- a run over a file is a log of a new device: demand 3 holds of what it answers and of the record that it holds at its end.
use Prim.Native.Nat.{ℕ, zero, suc, ◌+◌, ◌≤◌}
use Rattle.std.proofs.Common.{arith, sym, ◌∙◌, take_at}
use Rattle.std.specs.Prelude.{◌≡◌, true, List, [], ◌∷◌, ◌++◌, map, length, take, None, Some, Ok, Err}
use Rattle.std.proofs.Math.Path.{refl, ap}
use Rattle.std.proofs.Math.Bool.{false}
use Rattle.event.specs.Events.{Made}
use Rattle.file.specs.Reading.{Standing, read_at}
use Rattle.file.specs.Whole.{reading_then, history_from, end_then, end_from, history_of, end_of}
use Rattle.file.specs.Laws.{ReadingFrom}
use Rattle.file.proofs.Laws.{reading_from}
use Rattle.file.proofs.Files.{every_history_ends}
use Rattle.device.specs.declared.side.Side.{Side}
use Rattle.device.specs.declared.device.Device.{Device}
use Rattle.device.specs.Reset.{new_device}
use Rattle.device.specs.Device.{answered_of, Answer}
use Rattle.run.specs.declared.cursor.Cursor.{Cursor}
use Rattle.run.specs.Run.{Indexed, run_by, run_from, run_of}
use Rattle.run.specs.Cursor.{new_cursor, ended_at, progress_by, cursor_after}
use Rattle.run.proofs.Laws.{outcome_made, going_cursor, over_still, cursor_sum}
use Rattle.history.specs.Demand3.{ran_from, ran, answers_from, AllIn, OfNewDevice, remainder, Demand3, Alone}
use Rattle.history.proofs.Proved.{demand_3}
use Rattle.history.proofs.Alone.{alone}
use Rattle.history.specs.Files.{run_answers, run_log}

-- ---- the run's answers are those along the history, and the refusal that ends it
run_from_lem : (k : ℕ) (s : List ℕ) (at index : ℕ) (d : Device)
    → map (λ (a : Indexed). a.answer) (run_from k s at index d) ≡ answers_from d (history_from k s at) ++ map Err (end_from k s at)
unfolding run_from history_from end_from answered_of
run_from_lem zero s at index d = refl
run_from_lem (suc k) s at index d = go (run_from_lem k s) (read_at s at)
  where
    go : ((at index : ℕ) (d : Device) → map (λ (a : Indexed). a.answer) (run_from k s at index d) ≡ answers_from d (history_from k s at) ++ map Err (end_from k s at))
        → (r : Standing)
        → map (λ (a : Indexed). a.answer) (run_by (run_from k s) index d r)
        ≡ answers_from d (reading_then (history_from k s) r) ++ map Err (end_then (end_from k s) r)
    go rest (Ok (Some read)) =
        ap (λ (l : List Answer). (answered_of d read.event).answer ∷ l) (rest read.next (index + 1) (answered_of d read.event).device)
    go rest (Err r) = refl
    go rest (Ok None) = refl

pub run_is_history : (s : List ℕ) → map (λ (a : Indexed). a.answer) (run_of s) ≡ answers_from new_device (history_of s) ++ map Err (end_of s)
unfolding run_of
run_is_history s = run_from_lem (length s) s 0 0 new_device

-- ---- the device after some steps is the one that the history so far leaves
module _ (s : List ℕ) where
  device_after_lem : (n : ℕ) (c : Cursor) → c.over ≡ false → (cursor_after n s c).device ≡ ran_from c.device (history_from n s c.place)
  unfolding cursor_after history_from
  device_after_lem zero c going = refl
  device_after_lem (suc n) c going =
      ap (λ (d : Cursor). d.device) (going_cursor s n c going) ∙ go (device_after_lem n) (read_at s c.place)
    where
      go : ((c : Cursor) → c.over ≡ false → (cursor_after n s c).device ≡ ran_from c.device (history_from n s c.place))
          → (r : Standing)
          → (cursor_after n s (progress_by c r).cursor).device ≡ ran_from c.device (reading_then (history_from n s) r)
      go rest (Ok (Some read)) = rest (progress_by c (Ok (Some read))).cursor refl
      go rest (Err r) = ap (λ (d : Cursor). d.device) (over_still s n (ended_at c) refl)
      go rest (Ok None) = ap (λ (d : Cursor). d.device) (over_still s n (ended_at c) refl)

  -- as many steps as there are bytes leave the device that the whole history leaves
  pub enough_steps : (n : ℕ) → length s ≤ n → (cursor_after n s new_cursor).device ≡ ran (history_of s)
  unfolding new_cursor
  enough_steps n few = device_after_lem n new_cursor refl ∙ rw (every_history_ends s n few)

  -- and so does any run that is over
  pub last_device : (n : ℕ) → (cursor_after n s new_cursor).over ≡ true → (cursor_after n s new_cursor).device ≡ ran (history_of s)
  last_device n over =
      sym (ap (λ (d : Cursor). d.device) (cursor_sum s n (length s) new_cursor ∙ over_still s (length s) (cursor_after n s new_cursor) over))
      ∙ enough_steps (n + length s) (omega arith)

-- ---- and it is a history of events in range
history_in : (k : ℕ) (s : List ℕ) (at : ℕ) → AllIn (history_from k s at)
unfolding history_from
history_in zero s at = tt
history_in (suc k) s at = go (history_in k s) (read_at s at) (reading_from s at)
  where
    go : ((at : ℕ) → AllIn (history_from k s at)) → (r : Standing) → ReadingFrom s at r → AllIn (reading_then (history_from k s) r)
    go rest (Ok (Some read)) from = (outcome_made read.event from.2, rest read.next)
    go rest (Err r) from = tt
    go rest (Ok None) from = tt

an_answer_each : (d : Device) (history : List Made) → length (answers_from d history) ≡ length history
an_answer_each d [] = refl
an_answer_each d (m ∷ history) = ap suc (an_answer_each (answered_of d m).device history)

answered_of_lem : (s : List ℕ) → take (length (history_of s)) (run_answers s) ≡ answers_from new_device (history_of s)
answered_of_lem s =
    rw (run_is_history s)
    (take_at (answers_from new_device (history_of s)) (map Err (end_of s)) (length (history_of s)) (an_answer_each new_device (history_of s)))

pub run_of_new_device : (s : List ℕ) (n : ℕ) → (cursor_after n s new_cursor).over ≡ true → OfNewDevice (run_log s (cursor_after n s new_cursor))
run_of_new_device s n over = record { range = history_in (length s) s 0; same = rw (answered_of_lem s, last_device s n over) }

pub demand_3_of_files : (w : Side) (s : List ℕ) (n : ℕ) → (cursor_after n s new_cursor).over ≡ true → Demand3 w (run_log s (cursor_after n s new_cursor))
demand_3_of_files w s n over = demand_3 w (run_log s (cursor_after n s new_cursor)) (run_of_new_device s n over)

pub alone_of_files : (w : Side) (s t : List ℕ) (n k : ℕ) → (cursor_after n s new_cursor).over ≡ true → (cursor_after k t new_cursor).over ≡ true
    → remainder w (history_of s) ≡ remainder w (history_of t) → Alone w (run_log s (cursor_after n s new_cursor)) (run_log t (cursor_after k t new_cursor))
alone_of_files w s t n k over_s over_t same =
    alone w (run_log s (cursor_after n s new_cursor)) (run_log t (cursor_after k t new_cursor)) (run_of_new_device s n over_s) (run_of_new_device t k over_t) same
