-- Definitions: "Event file and refusal numbers": the event at a place of an input.
use Rattle.std.specs.Prelude.{ℕ, List, length, ltb, leb, Option, None, Some, Result, Ok, Err}
use Rattle.bits.specs.Choice.{pick}
use Rattle.event.specs.declared.refusal.Refusal.TheVariants as refusal
use Rattle.event.specs.declared.events.Event.{Event}
use Rattle.event.specs.Kinds.{operand_count}
use Rattle.event.specs.Events.{unknown_kind, event_of, Made}
use Rattle.event.specs.declared.refusal.Refusal.{Refusal}
use Rattle.file.specs.declared.number.Number.{Number}
use Rattle.file.specs.declared.reading.Reading.{Reading}
use Rattle.file.specs.Numbers.{number_at, operand_at}

-- what stands at a place: an event or a refused one, each with the place after it ("then: next event"); nothing at the end; or a
-- refusal that ends the run ("then: run ends")
abbrev pub Standing : Type 0
Standing = Result (Option Reading) Refusal

abbrev pub read_event : Event → ℕ → Standing
read_event e next = Ok (Some (record { event = Ok e; next = next }))

abbrev pub read_refused : Refusal → ℕ → Standing
read_refused r next = Ok (Some (record { event = Err r; next = next }))

-- "1 or 2 at the number where it occurs": a broken number ends the run, and any other is read on from
abbrev pub and_then : Result Number Refusal → (ℕ → ℕ → Standing) → Standing
and_then (Ok number) f = f number.value number.next
and_then (Err r) f = Err r

-- 4 to 8 leave the place after the event, so that the next can be read
abbrev pub placed : Made → ℕ → Standing
placed made next = Ok (Some (record { event = made; next = next }))

-- "when all operands are read, 4 to 8 in that order"
unfoldable pub operands_at : List ℕ → ℕ → ℕ → Standing
operands_at s kind at =
    and_then (operand_at s (ltb 0 (operand_count kind)) at) (λ x p.
    and_then (operand_at s (ltb 1 (operand_count kind)) p) (λ y q.
    and_then (operand_at s (ltb 2 (operand_count kind)) q) (λ z next.
    placed (event_of kind x y z) next)))

-- "9 is judged first. Then numbers in file order ..; 3 as soon as the kind is read"
unfoldable pub read_at : List ℕ → ℕ → Standing
read_at s at =
    pick (ltb 65536 (length s)) (Err refusal.Long)
    (pick (leb (length s) at) (Ok None)
    (and_then (number_at s at) (λ kind next. pick (unknown_kind kind) (Err refusal.Kind) (operands_at s kind next))))
