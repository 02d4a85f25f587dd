-- Definitions: what the laws of whole files in `proofs/Files` ask of a file that is read and of events that are written.
use Prim.Native.Nat.{ℕ}
use Rattle.std.specs.Prelude.{◌≡◌}
use mathlib.Core.List.{List, [], ◌∷◌}
use Rattle.event.specs.declared.events.Event.{Event}
use Rattle.event.specs.Events.{Numbers, InRange}
use Rattle.event.specs.Laws.{Small}
use Rattle.file.specs.Whole.{end_of}
use Rattle.file.specs.Laws.{Bytes}

-- numbers as a file can have them: a known kind, operands of two groups at most, and 0 for those that the kind lacks
abbrev pub AllSmall : List Numbers → Type 0
AllSmall [] = Unit {0}
AllSmall (n ∷ numbers) = Small n × AllSmall numbers

-- a list of bytes whose reading no refusal ends
abbrev pub ReadToItsEnd : List ℕ → Type 0
ReadToItsEnd s = Bytes s × (end_of s ≡ [])

-- so are events in range
abbrev pub AllInRange : List Event → Type 0
AllInRange [] = Unit {0}
AllInRange (e ∷ events) = InRange e × AllInRange events
