-- Definitions: "index from 0, a space, .., a space, the reply or refusal number": numbers in decimal, and the text of a line.
use Rattle.std.specs.Prelude.{ℕ, zero, suc, ◌+◌, ◌/◌, ◌%◌, ◌≡◌, List, [], ◌∷◌, ◌++◌, length, ltb}
use Rattle.std.proofs.lemmas.List.Edits.{sets}
use Rattle.bits.specs.Choice.{pick}

-- a number in decimal, its last digits up to a count
unfoldable pub last_digits : ℕ → ℕ → List ℕ
last_digits zero n = []
last_digits (suc k) n = pick (ltb n 10) ((48 + n) ∷ []) (last_digits k (n / 10) ++ ((48 + n % 10) ∷ []))

-- a number in decimal; no number has more digits than its own value and one
unfoldable pub decimal : ℕ → List ℕ
decimal n = last_digits (suc n) n

-- an index, a word between spaces, a number, and the line feed
unfoldable pub line_with : ℕ → List ℕ → ℕ → List ℕ
line_with index word number = decimal index ++ word ++ decimal number ++ (10 ∷ [])

-- a text put into a buffer at a place: it stands there from the place on and nothing else has changed, and what is answered is
-- the place after it
pub record Puts (before : List ℕ) (at : ℕ) (text after : List ℕ) (end : ℕ) : Type 0 where
  pub value : end ≡ at + length text
  pub out_after : after ≡ sets before at text
