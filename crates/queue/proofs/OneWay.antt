-- For proofs alone: code that goes one way whatever a condition says, against the definitions that choose by it.
use Prim.Native.Nat.{ℕ, zero, suc, ◌+◌, ◌-◌, ◌%◌, ◌<◌, ◌≤◌}
use native.Mathlib.Nat.{add-zero}
use native.Mathlib.Omega.{arith}
use mathlib.Core.Path.{◌≡◌, refl}
use mathlib.Core.Bool.{Bool, true, false, not, ◌&&◌}
use lib.Dec.{eqb}
use Rattle.std.proofs.Common.{Some, None, lt-ltb, le-ltb}
use Rattle.bits.specs.Choice.{pick}
use Rattle.bits.specs.Bits.{one_if}
use Rattle.bits.specs.Laws.{one_if_in}
use Rattle.queue.specs.declared.Character.{Character}
use Rattle.queue.specs.declared.Moved.{Moved}
use Rattle.queue.specs.declared.Queue.{Queue}
use Rattle.queue.specs.Queue.{none_added, adds_to, takes_from, clears_all, stays_as}

pub some_to_take : (goes : Bool) (count n : ℕ) → n ≡ one_if (goes && not (eqb count 0)) → n ≤ count
unfolding one_if
some_to_take true zero n e = omega arith
some_to_take true (suc count) n e = omega (arith, one_if_in (not (eqb (suc count) 0)) e)
some_to_take false count n e = omega arith

pub taken_or_not : (q : Queue) (goes : Bool) → q.start < 64
    → none_added ((q.start + one_if (goes && not (eqb q.count 0))) % 64) (q.count - one_if (goes && not (eqb q.count 0)))
    ≡ pick goes (takes_from q) (stays_as q)
unfolding takes_from stays_as one_if
taken_or_not q true h = refl
taken_or_not q false h =
    let start : (q.start + 0) % 64 ≡ q.start = omega arith in
    let count : q.count - 0 ≡ q.count = omega arith in
    rw (start, count)

pub cleared_or_not : (q : Queue) (goes : Bool) → none_added q.start (pick goes 0 q.count) ≡ pick goes (clears_all q) (stays_as q)
unfolding clears_all stays_as
cleared_or_not q true = refl
cleared_or_not q false = refl

-- a character that is offered is kept behind the others if fewer than room are queued, and lost otherwise
module _ (q : Queue) (c : Character) (room : ℕ) where
  pub kept_last : q.count < room
      → ◌≡◌ {A = Moved}
      (record { start = q.start; count = q.count + 1; kept = true; put = Some (record { place = (q.start + q.count) % 64; character = c }) })
      (adds_to q c room)
  unfolding adds_to one_if
  kept_last fewer = rw (lt-ltb q.count room fewer)

  pub lost : room ≤ q.count
      → ◌≡◌ {A = Moved}
      (record { start = q.start; count = q.count; kept = false; put = None })
      (adds_to q c room)
  unfolding adds_to one_if
  lost full = rw (le-ltb q.count room full, add-zero)
