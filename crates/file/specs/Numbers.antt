-- Definitions: "each a number in groups of seven bits, lowest group first, top bit set if a group follows. One or two groups,
-- shortest form only."
use Rattle.std.specs.Prelude.{ℕ, ◌+◌, ◌*◌, ◌/◌, ◌%◌, Bool, ◌||◌, List, [], ◌∷◌, length, get_or, eqb, ltb, leb, Result, Ok, Err}
use Rattle.bits.specs.Choice.{pick}
use Rattle.event.specs.declared.refusal.Refusal.TheVariants as refusal
use Rattle.event.specs.declared.refusal.Refusal.{Refusal}
use Rattle.file.specs.declared.number.Number.{Number}

-- a number that stands there, and the place after it
abbrev pub found : ℕ → ℕ → Result Number Refusal
found value next = Ok (record { value = value; next = next })

-- a number below 16,384 as it is written
unfoldable pub groups : ℕ → List ℕ
groups n = pick (ltb n 128) (n ∷ []) ((n % 128 + 128) ∷ (n / 128) ∷ [])

-- "a number's second byte is 00 or has its top bit set"
abbrev pub second_broken : ℕ → Bool
second_broken byte = eqb byte 0 || leb 128 byte

-- the number whose second byte, at the place `at`, stands after a first of the lowest group `low`: refusal 2 past the end, 1 for a broken one
unfoldable pub second_at : List ℕ → ℕ → ℕ → Result Number Refusal
second_at s low at =
    pick (leb (length s) at) (Err refusal.Short)
    (pick (second_broken (get_or s at 0)) (Err refusal.Number)
    (found (low + 128 * get_or s at 0) (at + 1)))

-- the number at a place, with the place after it
unfoldable pub number_at : List ℕ → ℕ → Result Number Refusal
number_at s at =
    pick (leb (length s) at) (Err refusal.Short)
    (pick (ltb (get_or s at 0) 128) (found (get_or s at 0) (at + 1))
    (second_at s (get_or s at 0 % 128) (at + 1)))

-- an operand that the kind has; 0 and the same place where it has none
unfoldable pub operand_at : List ℕ → Bool → ℕ → Result Number Refusal
operand_at s wanted at = pick wanted (number_at s at) (found 0 at)
