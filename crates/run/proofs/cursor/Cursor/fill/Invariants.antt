-- After so many steps the buffer holds their text, at most sixteen bytes each.
use Rattle.std.proofs.Common.{◌*◌, ◌≤◌}
use Rattle.run.specs.Cursor.{WellFormed}
use Rattle.run.proofs.Filling.{Filling}
use Rattle.run.proofs.cursor.Cursor.fill.Given as goal

abbrev pub invariant-loop : goal.invariant-loop
invariant-loop l =
    (l.count ≤ 16 * l.counter) × WellFormed l.cursor × Filling l.input l.initial.cursor l.initial.out l.out l.cursor l.count l.counter
