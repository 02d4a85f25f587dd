-- Definitions: a whole event file: the numbers that stand in it one event behind the other, what is read of it, and the
-- refusal that ends the reading, if one does.
use Rattle.std.specs.Prelude.{ℕ, zero, suc, List, [], ◌∷◌, ◌++◌, map, length, ltb, None, Some, Result, Ok, Err}
use Rattle.event.specs.declared.refusal.Refusal.{Refusal}
use Rattle.event.specs.declared.events.Event.{Event}
use Rattle.event.specs.Kinds.{operand_count}
use Rattle.event.specs.Events.{Numbers, Made}
use Rattle.file.specs.declared.number.Number.{Number}
use Rattle.file.specs.Numbers.{number_at, operand_at}
use Rattle.file.specs.Reading.{Standing, read_at}
use Rattle.file.specs.Form.{number_bytes, bytes_of}

-- numbers and events as they are written, one behind the other
abbrev pub joined : List (List ℕ) → List ℕ
joined [] = []
joined (l ∷ more) = l ++ joined more

abbrev pub numbers_written : List Numbers → List ℕ
numbers_written numbers = joined (map number_bytes numbers)

abbrev pub events_written : List Event → List ℕ
events_written events = joined (map bytes_of events)

-- ---- the numbers at a place where an event or a refused one stands: the kind, and 0 for an operand that it lacks
abbrev pub value_then : Result Number Refusal → (ℕ → ℕ → Numbers) → Numbers
value_then (Ok number) f = f number.value number.next
value_then (Err r) f = record { kind = 0; x = 0; y = 0; z = 0 }

unfoldable pub standing_at : List ℕ → ℕ → Numbers
standing_at s at =
    value_then (number_at s at) (λ kind p.
    value_then (operand_at s (ltb 0 (operand_count kind)) p) (λ x q.
    value_then (operand_at s (ltb 1 (operand_count kind)) q) (λ y r.
    value_then (operand_at s (ltb 2 (operand_count kind)) r) (λ z next.
    record { kind = kind; x = x; y = y; z = z }))))

abbrev pub numbers_then : Numbers → (ℕ → List Numbers) → Standing → List Numbers
numbers_then n rest (Ok (Some read)) = n ∷ rest read.next
numbers_then n rest (Err r) = []
numbers_then n rest (Ok None) = []

-- those of an input from a place on, in at most so many events
unfoldable pub numbers_from : ℕ → List ℕ → ℕ → List Numbers
numbers_from zero s at = []
numbers_from (suc k) s at = numbers_then (standing_at s at) (numbers_from k s) (read_at s at)

-- ---- what is read of it, so counted: the history that the file has
abbrev pub reading_then : (ℕ → List Made) → Standing → List Made
reading_then rest (Ok (Some read)) = read.event ∷ rest read.next
reading_then rest (Err r) = []
reading_then rest (Ok None) = []

unfoldable pub history_from : ℕ → List ℕ → ℕ → List Made
history_from zero s at = []
history_from (suc k) s at = reading_then (history_from k s) (read_at s at)

-- ---- and the refusal that ends it, none where all is read
abbrev pub end_then : (ℕ → List Refusal) → Standing → List Refusal
end_then rest (Ok (Some read)) = rest read.next
end_then rest (Err r) = r ∷ []
end_then rest (Ok None) = []

unfoldable pub end_from : ℕ → List ℕ → ℕ → List Refusal
end_from zero s at = []
end_from (suc k) s at = end_then (end_from k s) (read_at s at)

-- ---- the whole input: an event takes a byte at least, so it has no more events than bytes
unfoldable pub numbers_in : List ℕ → List Numbers
numbers_in s = numbers_from (length s) s 0

abbrev pub history_of : List ℕ → List Made
history_of s = history_from (length s) s 0

abbrev pub end_of : List ℕ → List Refusal
end_of s = end_from (length s) s 0
