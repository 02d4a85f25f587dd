-- For proofs alone: a number's digits put one after the other, the last one last.
use Prim.Native.Nat.{ℕ, ◌+◌, ◌/◌, ◌%◌, ◌<◌, ◌≤◌}
use mathlib.Core.List.{List, [], ◌∷◌}
use lib.ListN.{set}
use Rattle.text.specs.Text.{decimal, Puts}
use Rattle.text.specs.Laws.{decimal_small, decimal_large}
use Rattle.text.proofs.Stores.{puts_byte, puts_append}

pub puts_digit : (l : List ℕ) (at n : ℕ) → n < 10 → Puts l at (decimal n) (set l at (48 + n)) (at + 1)
puts_digit l at n small = rw (decimal_small n small) (puts_byte l at (48 + n))

pub puts_digits : (l now : List ℕ) (at place n : ℕ) → 10 ≤ n → Puts l at (decimal (n / 10)) now place
    → Puts l at (decimal n) (set now place (48 + n % 10)) (place + 1)
puts_digits l now at place n large so_far =
    rw (decimal_large n large) (puts_append (decimal (n / 10)) ((48 + n % 10) ∷ []) so_far (puts_byte now place (48 + n % 10)))
