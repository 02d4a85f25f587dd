-- Definitions: what is left of a run, counted in steps; by it the laws in `proofs/Laws` show that a run ends.
use Prim.Native.Nat.{ℕ, suc, ◌-◌}
use Rattle.std.specs.Prelude.{length}
use mathlib.Core.List.{List}
use Rattle.bits.specs.Choice.{pick}
use Rattle.run.specs.declared.cursor.Cursor.{Cursor}

-- ---- what is left of a run, counted in steps: none once it is over, else a step for each byte and one for the end
abbrev pub left : List ℕ → Cursor → ℕ
left s c = pick c.over 0 (suc (length s - c.place))
