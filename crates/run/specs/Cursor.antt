-- Definitions: a run taken step by step, and a buffer filled with the lines of its next steps.
use Rattle.std.specs.Prelude.{ℕ, zero, suc, ◌+◌, ◌≤◌, true, false, List, [], ◌++◌, length, Ok, Err, None, Some, Option}
use Rattle.bits.specs.Choice.{pick}
use Rattle.file.specs.Reading.{Standing, read_at}
use Rattle.device.specs.declared.device.Outcome.{Outcome}
use Rattle.device.specs.Reset.{new_device}
use Rattle.device.specs.Device as device
use Rattle.device.specs.Device.{answered_of, Answer}
use Rattle.run.specs.declared.cursor.Cursor.{Cursor}
use Rattle.run.specs.declared.cursor.Progress.{Progress}
use Rattle.run.specs.declared.cursor.Filled.{Filled}
use Rattle.run.specs.Lines.{line_of}

-- "Of a record a contract may ask only that it is well formed, its counts, places and stored values within their bounds"
pub record WellFormed (c : Cursor) : Type 0 where
  pub device_in : device.WellFormed c.device
  pub index_in : c.index ≤ c.place
  pub place_in : c.place ≤ 65536

-- a run begins at the first byte, with index 0, on a new device
unfoldable pub new_cursor : Cursor
new_cursor = record { device = new_device; place = 0; index = 0; over = false }

-- the run over, all else as it was
abbrev pub ended_at : Cursor → Cursor
ended_at c = record { device = c.device; place = c.place; index = c.index; over = true }

-- an event answered, and the next place, index and device
abbrev pub going_on : Cursor → ℕ → Outcome → Progress
going_on c next outcome =
    record {
      cursor = record { device = outcome.device; place = next; index = c.index + 1; over = false };
      said = Some outcome.answer;
    }

-- after 1, 2, 3 and 9 "run ends", after 4 to 8 "next event"
abbrev pub progress_by : Cursor → Standing → Progress
progress_by c (Ok (Some read)) = going_on c read.next (answered_of c.device read.event)
progress_by c (Err r) = record { cursor = ended_at c; said = Some (Err r) }
progress_by c (Ok None) = record { cursor = ended_at c; said = None }

-- one step; a run that is over says nothing more
unfoldable pub progress_of : List ℕ → Cursor → Progress
progress_of s c = pick c.over (record { cursor = c; said = None }) (progress_by c (read_at s c.place))

unfoldable pub text_said : ℕ → Option Answer → List ℕ
text_said index (Some a) = line_of index a
text_said index None = []

-- the text of a number of steps, and the cursor after them
unfoldable pub text_in : ℕ → List ℕ → Cursor → List ℕ
text_in zero s c = []
text_in (suc n) s c = text_said c.index (progress_of s c).said ++ text_in n s (progress_of s c).cursor

unfoldable pub cursor_after : ℕ → List ℕ → Cursor → Cursor
cursor_after zero s c = c
cursor_after (suc n) s c = cursor_after n s (progress_of s c).cursor

unfoldable pub filled_by : ℕ → List ℕ → Cursor → Filled
filled_by n s c = record { cursor = cursor_after n s c; count = length (text_in n s c) }
