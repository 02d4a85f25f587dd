-- The cursor is well formed. The measure is what is left of the run.
use Rattle.run.specs.Cursor.{WellFormed}
use Rattle.run.specs.Laws.{left}
use Rattle.bench.proofs.write_answers.Given as goal

abbrev pub invariant-loop-cursor : goal.invariant-loop-cursor
invariant-loop-cursor l = WellFormed l.cursor

abbrev pub decreases-loop-cursor : goal.decreases-loop-cursor
decreases-loop-cursor l = left l.input l.cursor
