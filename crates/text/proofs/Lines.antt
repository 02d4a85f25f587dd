-- For proofs alone: a line put part by part.
use Prim.Native.Nat.{ℕ, ◌+◌}
use mathlib.Core.List.{List, [], ◌∷◌, ◌++◌}
use lib.ListN.{set}
use Rattle.text.specs.Text.{decimal, line_with, Puts}
use Rattle.text.proofs.Stores.{puts_byte, puts_append}

pub puts_line : (l indexed worded numbered : List ℕ) (at a b e index number : ℕ) (word : List ℕ)
    → Puts l at (decimal index) indexed a → Puts indexed a word worded b → Puts worded b (decimal number) numbered e
    → Puts l at (line_with index word number) (set numbered e 10) (e + 1)
unfolding line_with
puts_line l indexed worded numbered at a b e index number word indexes words numbers =
    puts_append (decimal index ++ word ++ decimal number) (10 ∷ [])
    (puts_append (decimal index ++ word) (decimal number) (puts_append (decimal index) word indexes words) numbers)
    (puts_byte numbered e 10)
