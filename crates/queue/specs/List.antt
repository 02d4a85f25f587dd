-- Definitions: the list of characters that a queue stands for, oldest first. Whoever uses a queue knows it by this list alone.
use Rattle.std.specs.Prelude.{ℕ, zero, suc, ◌%◌, Bool, false, not, ◌||◌, List, [], ◌∷◌, ◌++◌, length, get_or, drop, eqb, ltb}
use Rattle.bits.specs.Choice.{pick}
use Rattle.queue.specs.declared.Character.{Character}
use Rattle.queue.specs.declared.Queue.{Queue}
use Rattle.queue.specs.Change.{Change, Add, Take, Clear, Stay}

-- the character at the place s, counted round
abbrev pub char_at : List ℕ → List ℕ → ℕ → Character
char_at bytes marks s = record { byte = get_or bytes (s % 64) 0; mark = get_or marks (s % 64) 0 }

-- the n characters from the place s on
unfoldable pub items_from : List ℕ → List ℕ → ℕ → ℕ → List Character
items_from bytes marks s zero = []
items_from bytes marks s (suc n) = char_at bytes marks s ∷ items_from bytes marks (suc s) n

-- what is queued, oldest first
unfoldable pub items : Queue → List Character
items q = items_from q.bytes q.marks q.start q.count

-- whether some character of a list has a mark that is not 0
unfoldable pub some_mark : List Character → Bool
some_mark [] = false
some_mark (c ∷ cs) = not (eqb c.mark 0) || some_mark cs

-- a list of characters after what happens to it: "kept .. if fewer than room are queued, else lost"
unfoldable pub list_after : List Character → Change → ℕ → List Character
list_after cs (Add c) room = pick (ltb (length cs) room) (cs ++ (c ∷ [])) cs
list_after cs Take room = drop 1 cs
list_after cs Clear room = []
list_after cs Stay room = cs
