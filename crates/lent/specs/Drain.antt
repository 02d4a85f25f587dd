-- Definitions: request 03, "a call that reads RHR into a lent buffer, up to a stated number of times, until the queue is empty or the
-- buffer full, and hands back the filled front part of the caller's own buffer."
use Rattle.std.specs.Prelude.{ℕ, zero, suc, min, ◌≡◌, Bool, not, ◌&&◌, leb, List, [], ◌∷◌, ◌++◌, length, drop}
use Rattle.std.specs.Borrow.{Lends, MutBor, Fml, u8, Array}
use Rattle.bits.specs.Choice.{pick}
use Rattle.bits.specs.Bits.{bit_at}
use Rattle.event.specs.declared.events.Event.TheVariants as event
use Rattle.event.specs.declared.events.Touch.{Touch}
use Rattle.event.specs.declared.events.Touch.TheVariants as touch
use Rattle.event.specs.Events.{judged_of}
use Rattle.channel.specs.declared.channel.Channel.{Channel}
use Rattle.device.specs.declared.device.Device.{Device}
use Rattle.device.specs.declared.device.Outcome.{Outcome}
use Rattle.device.specs.Device.{channel_at, side_numbered, answered_of, answer_number}
use Rattle.lent.specs.declared.drains.Drained.{Drained}

-- "RHR/THR 0": a read of it
abbrev pub read_rhr : Touch
read_rhr = touch.Read 0

-- a single read, as the step has it; "a channel above 1" is refused there
abbrev pub single_read : Device → ℕ → Outcome
single_read d channel = answered_of d (judged_of (event.At channel read_rhr))

-- the device after so many single reads, and their replies in order
unfoldable pub after_reads : Device → ℕ → ℕ → Device
after_reads d channel zero = d
after_reads d channel (suc n) = after_reads (single_read d channel).device channel n

unfoldable pub replies_of : Device → ℕ → ℕ → List ℕ
replies_of d channel zero = []
replies_of d channel (suc n) = answer_number (single_read d channel).answer ∷ replies_of (single_read d channel).device channel n

-- the channel that a number in range names
abbrev pub named_channel : Device → ℕ → Channel
named_channel d channel = channel_at d (side_numbered channel)

-- "With LCR 7 set, or a channel above 1, the part is empty and nothing changes."
unfoldable pub is_open : Device → ℕ → Bool
is_open d channel = leb channel 1 && not (bit_at (named_channel d channel).settings.lcr 7)

-- "up to a stated number of times, until the queue is empty or the buffer full"
abbrev pub least_of : Device → ℕ → ℕ → ℕ → ℕ
least_of d channel most room = min (min most (named_channel d channel).rx.count) room

unfoldable pub part_length : Device → ℕ → ℕ → ℕ → ℕ
part_length d channel most room = pick (is_open d channel) (least_of d channel most room) 0

-- "Device and part equal as many single reads as the part is long"
unfoldable pub drained_of : Device → ℕ → ℕ → ℕ → Drained
drained_of d channel most room =
    record { device = after_reads d channel (part_length d channel most room); count = part_length d channel most room }

unfoldable pub part_of : Device → ℕ → ℕ → ℕ → List ℕ
part_of d channel most room = replies_of d channel (part_length d channel most room)

-- "later bytes stay": the buffer afterwards
unfoldable pub filled_by : Device → ℕ → ℕ → List ℕ → List ℕ
filled_by d channel most buffer =
    part_of d channel most (length buffer) ++ drop (part_length d channel most (length buffer)) buffer

-- "Device and part equal .., later bytes stay": the device that a drain leaves, how many bytes the buffer was given, and the buffer
pub record Emptied (before : Device) (channel most : ℕ) (buffer : List ℕ) (left : Drained) (filled : List ℕ) : Type 0 where
  pub left_is : left ≡ drained_of before channel most (length buffer)
  pub filled_is : filled ≡ filled_by before channel most buffer

-- "hands back the filled front part of the caller's own buffer": once the part is given back, the buffer is the part as it was left,
-- and the later bytes as they were
abbrev pub LendsPart : Device → ℕ → ℕ → MutBor (List ℕ) → MutBor (List ℕ) → Fml
LendsPart d channel most buffer part =
    Lends (Array u8 0) (Array u8 0) buffer part (λ left. left ++ drop (part_length d channel most (length buffer.now)) buffer.now)
