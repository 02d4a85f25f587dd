-- Laws: of two conditions joined, and of what std makes of one or two.
use Rattle.std.specs.Prelude.{◌≡◌, refl, Bool, true, false, not, ◌&&◌, ◌||◌}
use Rattle.std.proofs.Math.Bool.{beq}
use Rattle.std.specs.Int.{from_bool}
use Rattle.bits.specs.Choice.{apart}
use Rattle.bits.specs.Bits.{one_if, differs}

pub or_true : (x : Bool) → x || true ≡ true
or_true true = refl
or_true false = refl

pub or_false : (x : Bool) → x || false ≡ x
or_false true = refl
or_false false = refl

pub and_true : (x : Bool) → x && true ≡ x
and_true true = refl
and_true false = refl

-- both fail where the second does
pub and_not : (x y : Bool) → y ≡ false → x && y ≡ false
and_not true y h = h
and_not false y h = refl

pub both_hold : (x y : Bool) → x && y ≡ true → (x ≡ true) × (y ≡ true)
both_hold true true h = (refl, refl)
both_hold true false h = absurd (apart h)
both_hold false y h = absurd (apart h)

-- ---- std's `from` of a condition, and its `!=` of two
pub from_one_if : (condition : Bool) → from_bool condition ≡ one_if condition
unfolding one_if
from_one_if true = refl
from_one_if false = refl

pub ne_differs : (one other : Bool) → not (beq one other) ≡ differs one other
unfolding differs
ne_differs true true = refl
ne_differs true false = refl
ne_differs false true = refl
ne_differs false false = refl
