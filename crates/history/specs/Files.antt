-- Definitions: the run over an event file as a log. `proofs/Files` shows that it is one of a new device.
use Prim.Native.Nat.{ℕ}
use Rattle.std.specs.Prelude.{List, map, length, take}
use Rattle.file.specs.Whole.{history_of}
use Rattle.device.specs.Device.{answer_number, Answer}
use Rattle.run.specs.declared.cursor.Cursor.{Cursor}
use Rattle.run.specs.Run.{Indexed, run_of}
use Rattle.history.specs.Demand3.{Log}

-- ---- the run as a log: what it read, what it answered to that, and the record that it holds when it is over
abbrev pub run_answers : List ℕ → List Answer
run_answers s = map (λ (a : Indexed). a.answer) (run_of s)

abbrev pub run_log : List ℕ → Cursor → Log
run_log s c =
    record {
      history = history_of s;
      answered = map answer_number (take (length (history_of s)) (run_answers s));
      device = c.device;
    }
