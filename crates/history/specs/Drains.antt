-- Definitions: request 03 by the judge of demand 3: what a drain gives after a history. `proofs/Drains` shows it of every log of a
-- new device.
use Rattle.std.specs.Prelude.{ℕ, min, ◌≡◌, map, take}
use Rattle.bits.specs.Choice.{pick}
use Rattle.bits.specs.Bits.{bit_at}
use Rattle.device.specs.declared.side.Side.{Side}
use Rattle.lent.specs.Drain.{part_length, part_of}
use Rattle.history.specs.Judge.{queued, unread}
use Rattle.history.specs.Demand3.{Log, number, registers, tally}

-- how many characters a drain takes, with a stated number of times and room for so many: "With LCR 7 set .. the part is empty", else
-- "up to a stated number of times, until the queue is empty or the buffer full"
abbrev pub drained_count : Side → Log → ℕ → ℕ → ℕ
drained_count w log most room = pick (bit_at (registers w log).lcr 7) 0 (min (min most (queued (tally w log))) room)

pub record DrainsNext (w : Side) (log : Log) (most room : ℕ) : Type 0 where
  -- how long the part is, "none of an empty queue"
  pub count : part_length log.device (number w) most room ≡ drained_count w log most room
  -- and what it is: the next so many characters kept and not yet read, in order
  pub part : part_of log.device (number w) most room
      ≡ map (λ c. c.byte) (take (drained_count w log most room) (unread (tally w log)))
