-- Definitions: a run over a whole input: its answers, each with its index, and the text that the bench prints.
use Rattle.std.specs.Prelude.{ℕ, zero, suc, ◌+◌, List, [], ◌∷◌, ◌++◌, length, None, Some, Ok, Err}
use Rattle.file.specs.Reading.{Standing, read_at}
use Rattle.device.specs.declared.device.Device.{Device}
use Rattle.device.specs.declared.device.Outcome.{Outcome}
use Rattle.device.specs.Reset.{new_device}
use Rattle.device.specs.Device.{answered_of, Answer}
use Rattle.run.specs.Lines.{line_of}

pub record Indexed : Type 0 where
  pub index : ℕ
  pub answer : Answer

-- an answer, and what follows it from the next place on with the next index and the device that the event left
abbrev pub answered_then : (ℕ → ℕ → Device → List Indexed) → ℕ → ℕ → Outcome → List Indexed
answered_then rest next index outcome = record { index = index; answer = outcome.answer } ∷ rest next (index + 1) outcome.device

-- after 1, 2, 3 and 9 "run ends", after 4 to 8 "next event"; "A refused event leaves the device unchanged"
abbrev pub run_by : (ℕ → ℕ → Device → List Indexed) → ℕ → Device → Standing → List Indexed
run_by rest index d (Ok (Some read)) = answered_then rest read.next index (answered_of d read.event)
run_by rest index d (Err r) = record { index = index; answer = Err r } ∷ []
run_by rest index d (Ok None) = []

-- the answers from a place on, at most so many
unfoldable pub run_from : ℕ → List ℕ → ℕ → ℕ → Device → List Indexed
run_from zero s at index d = []
run_from (suc k) s at index d = run_by (run_from k s) index d (read_at s at)

-- the run on a new device, at most so many answers
abbrev pub run_up_to : ℕ → List ℕ → List Indexed
run_up_to k s = run_from k s 0 0 new_device

-- the whole run: an event takes a byte at least, so an input has no more answers than bytes
unfoldable pub run_of : List ℕ → List Indexed
run_of s = run_up_to (length s) s

unfoldable pub lines_of : List Indexed → List ℕ
lines_of [] = []
lines_of (a ∷ rest) = line_of a.index a.answer ++ lines_of rest

-- "The bench program reads standard input and prints one line an event"
unfoldable pub text_of : List ℕ → List ℕ
text_of s = lines_of (run_of s)
