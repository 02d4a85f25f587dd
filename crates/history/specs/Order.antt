-- For proofs alone: what it is that the reads that found a character gave what was kept, in order.
use Rattle.std.specs.Prelude.{ℕ, ◌≡◌, List, map, take}
use Rattle.queue.specs.declared.Character.{Character}
use Rattle.history.specs.Judge.{Tally}

abbrev pub bytes_of : List Character → List ℕ
bytes_of cs = map (λ c. c.byte) cs

-- what was found so far is what was kept, up to the reads counted
abbrev pub InOrder : Tally → List ℕ → Type 0
InOrder l found = found ≡ bytes_of (take l.read l.kept)
