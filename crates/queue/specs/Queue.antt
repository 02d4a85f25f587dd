-- Definitions, place by place: "Queued characters and their marks sit together in one record, 64 places".
use Rattle.std.specs.Prelude.{ℕ, zero, suc, ◌+◌, ◌-◌, ◌%◌, ◌<◌, ◌≤◌, ◌≡◌, Bool, true, false, not, ◌||◌, List, length, get_or, set, replicate, eqb, ltb, Option, Some, None, IfSome}
use Rattle.bits.specs.Choice.{pick}
use Rattle.bits.specs.Bits.{one_if}
use Rattle.queue.specs.declared.Character.{Character}
use Rattle.queue.specs.declared.Queue.{Queue}
use Rattle.queue.specs.declared.Put.{Put}
use Rattle.queue.specs.declared.Moved.{Moved}
use Rattle.queue.specs.Change.{Change, Add, Take, Clear, Stay}

-- what may be asked of a queue: its numbers are within their bounds, and nothing more
pub record WellFormed (q : Queue) : Type 0 where
  pub start_in : q.start < 64
  pub count_in : q.count ≤ 64
  pub bytes_64 : length q.bytes ≡ 64
  pub marks_64 : length q.marks ≡ 64

-- every place holds a number below a bound
unfoldable pub Below : ℕ → List ℕ → Type 0
Below bound places = (place : ℕ) → get_or places place 0 < bound

-- a character within its bounds: a byte, and a mark that is a sum of 1, 2 and 4
pub record CharacterIn (c : Character) : Type 0 where
  pub byte_in : c.byte < 256
  pub mark_in : c.mark < 8

-- a place that is written is one of the 64
abbrev pub Fits : Moved → Type 0
Fits m = IfSome m.put (λ (p : Put). p.place < 64)

-- what becomes of a queue within the bounds of one
pub record MovedIn (m : Moved) : Type 0 where
  pub start_in : m.start < 64
  pub count_in : m.count ≤ 64
  pub place_in : Fits m
  pub character_in : IfSome m.put (λ (p : Put). CharacterIn p.character)

-- the character that stands for none
abbrev pub none : Character
none = record { byte = 0; mark = 0 }

unfoldable pub empty_queue : Queue
empty_queue = record { bytes = replicate 64 0; marks = replicate 64 0; start = 0; count = 0 }

-- "oldest character ..; 0 if empty"
unfoldable pub oldest_of : Queue → Character
oldest_of q =
    pick (eqb q.count 0) none
    (record { byte = get_or q.bytes q.start 0; mark = get_or q.marks q.start 0 })

-- whether one of the n places from s on, counted round, has a mark
unfoldable pub marked_from : List ℕ → ℕ → ℕ → Bool
marked_from marks s zero = false
marked_from marks s (suc n) = not (eqb (get_or marks (s % 64) 0) 0) || marked_from marks (suc s) n

-- "some queued mark not 0"
unfoldable pub any_mark_of : Queue → Bool
any_mark_of q = marked_from q.marks q.start q.count

-- ---- what becomes of a queue
-- where none is offered none is lost, and no place is written
abbrev pub none_added : ℕ → ℕ → Moved
none_added start count = record { start = start; count = count; kept = true; put = None }

unfoldable pub stays_as : Queue → Moved
stays_as q = none_added q.start q.count

-- "kept with its mark if fewer than room are queued, else lost"; "the newcomer is the one lost (house)". It goes to the
-- place after the last.
unfoldable pub adds_to : Queue → Character → ℕ → Moved
adds_to q c room =
    record {
      start = q.start;
      count = q.count + one_if (ltb q.count room);
      kept = ltb q.count room;
      put = pick (ltb q.count room) (Some (record { place = (q.start + q.count) % 64; character = c })) None;
    }

-- a character offered, if one is
abbrev pub offered_to : Queue → Option Character → ℕ → Moved
offered_to q None room = stays_as q
offered_to q (Some c) room = adds_to q c room

-- the oldest removed; of an empty queue none
unfoldable pub takes_from : Queue → Moved
takes_from q =
    none_added ((q.start + one_if (not (eqb q.count 0))) % 64) (q.count - one_if (not (eqb q.count 0)))

unfoldable pub clears_all : Queue → Moved
clears_all q = none_added q.start 0

-- by what happens to it, over a room for one more character
unfoldable pub moved_by : Queue → Change → ℕ → Moved
moved_by q (Add c) room = adds_to q c room
moved_by q Take room = takes_from q
moved_by q Clear room = clears_all q
moved_by q Stay room = stays_as q

-- places with one of them written, if one is: with the number that a character has there
abbrev pub put_into : Option Put → (Character → ℕ) → List ℕ → List ℕ
put_into None number places = places
put_into (Some put) number places = set places put.place (number put.character)

-- the queue after what becomes of it
unfoldable pub after_of : Queue → Moved → Queue
after_of q m =
    record {
      bytes = put_into m.put (λ c. c.byte) q.bytes;
      marks = put_into m.put (λ c. c.mark) q.marks;
      start = m.start;
      count = m.count;
    }

-- the queue after what happens to it
abbrev pub changed : Queue → Change → ℕ → Queue
changed q a room = after_of q (moved_by q a room)
