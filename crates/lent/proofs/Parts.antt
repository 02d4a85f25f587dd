-- For proofs alone: what reads at a channel, into the front of a buffer, come to for the device and the whole buffer.
use Rattle.std.specs.Prelude.{ℕ, ◌<◌, ◌≤◌, ◌≡◌, leb, List, ◌++◌, length, take, drop}
use Rattle.std.proofs.Common.{arith, sym}
use Rattle.std.proofs.lemmas.List.{length-take-le}
use Rattle.bits.specs.Choice.{pick_by}
use Rattle.bits.specs.Conditions.{both_hold}
use Rattle.device.specs.declared.device.Device.{Device}
use Rattle.device.specs.declared.side.Side.{Side}
use Rattle.device.specs.Device.{channel_at, with_channel, side_numbered}
use Rattle.lent.specs.Drain.{named_channel, is_open, part_length, drained_of, filled_by}
use Rattle.lent.specs.Reads.{channel_after, channel_replies, Open}
use Rattle.lent.specs.DrainLaws.{rhr_open, part_within, reads_made, replies_made}

-- where a read is made RHR is open
some_open : (d : Device) (channel most room : ℕ) → 0 < part_length d channel most room → Open (named_channel d channel)
unfolding part_length is_open
some_open d channel most room =
    pick_by (λ (n : ℕ). 0 < n → Open (named_channel d channel)) (is_open d channel)
    (λ h some. rhr_open (named_channel d channel) (both_hold (leb channel 1) _ h).1) (λ _ none. absurd (omega arith))

module _ (d : Device) (channel most : ℕ) (buffer : List ℕ) (count : ℕ) (counted : count ≡ part_length d channel most (length buffer)) where
  fits : count ≤ length buffer
  fits = rw counted (part_within d channel most (length buffer))

  pub front_count : count ≡ length (take count buffer)
  front_count = sym (length-take-le count buffer fits)

  module _ (at : Side) (named : at ≡ side_numbered channel) where
    pub front_opened : 0 < length (take count buffer) → Open (channel_at d at)
    front_opened some = rw named (some_open d channel most (length buffer) (omega (arith, front_count, counted)))

    pub drained_is : (after : Device) → after ≡ with_channel d at (channel_after (channel_at d at) (length (take count buffer)))
        → record { device = after; count = count } ≡ drained_of d channel most (length buffer)
    unfolding drained_of
    drained_is after is = rw (is, ← front_count, named, counted) (rw (reads_made d channel most (length buffer)))

    pub filled_is : (part : List ℕ) → part ≡ channel_replies (channel_at d at) (length (take count buffer))
        → part ++ drop count buffer ≡ filled_by d channel most buffer
    unfolding filled_by
    filled_is part is = rw (is, ← front_count, named, counted) (rw (replies_made d channel most (length buffer)))
