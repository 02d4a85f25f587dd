-- Definitions: "Events and replies": the nine kinds by their numbers, with how many operands each has.
use Rattle.std.specs.Prelude.{ℕ, ◌<◌, ◌≡◌, [], ◌∷◌, get_or, Result, Ok, Err}
use Rattle.event.specs.declared.kind.Kind.{Kind}
use Rattle.event.specs.declared.kind.Kind.TheVariants as kind
use Rattle.event.specs.declared.refusal.Refusal.{Refusal}
use Rattle.event.specs.declared.refusal.Refusal.TheVariants as refusal

-- the column of the table of kinds that counts them
abbrev pub kind_number : Kind → ℕ
kind_number kind.Write = 0
kind_number kind.Read = 1
kind_number kind.Arrival = 2
kind_number kind.Slot = 3
kind_number kind.Pins = 4
kind_number kind.Quiet = 5
kind_number kind.Reset = 6
kind_number kind.IrqLook = 7
kind_number kind.RtsLook = 8

-- what a number names: the kind that it counts, or 3, "kind above 8"
abbrev pub NamedBy : ℕ → Result Kind Refusal → Type 0
NamedBy number (Ok named) = kind_number named ≡ number
NamedBy number (Err why) = (8 < number) × (why ≡ refusal.Kind)

-- the column "operands" of the table of kinds, counted
abbrev pub operand_count : ℕ → ℕ
operand_count kind = get_or (3 ∷ 2 ∷ 3 ∷ 1 ∷ 2 ∷ 1 ∷ 0 ∷ 0 ∷ 1 ∷ []) kind 0
