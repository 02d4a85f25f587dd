-- Laws: reads of RHR one after the other are reads at one channel, and what a drain leaves is one and well formed.
use Rattle.std.specs.Prelude.{ℕ, zero, suc, min, ◌≤◌, ◌≡◌, refl, true, not, leb, List, ◌∷◌, length, Ok}
use Rattle.std.proofs.lemmas.Bool.{leb-true}
use Rattle.std.proofs.Math.Nat.{min-le_right}
use Rattle.std.proofs.Common.{arith, sym, ap, ◌∙◌}
use Rattle.bits.specs.Choice.{pick_by}
use Rattle.bits.specs.Conditions.{both_hold}
use Rattle.bits.specs.Bits.{bit_at}
use Rattle.event.specs.declared.events.Event.TheVariants as event
use Rattle.event.specs.Events.{judged_of}
use Rattle.event.specs.Laws.{in_range_judged}
use Rattle.registers.specs.Windows.{general_at, register_at}
use Rattle.channel.specs.declared.channel.Channel.{Channel}
use Rattle.acts.specs.Touches.{setting_by, settings_after, resets_by}
use Rattle.acts.specs.Step.{step_at, touched_by}
use Rattle.acts.specs.Laws.{touched_settings}
use Rattle.device.specs.declared.device.Device.{Device}
use Rattle.device.specs.declared.side.Side.{Side}
use Rattle.device.specs.Device.{WellFormed, channel_at, with_channel, side_numbered, touched_at, named_step, step_of, answered_of, answer_number}
use Rattle.device.specs.Laws.{judged_in, well_formed_answered, own_with, again_with, same_with}
use Rattle.lent.specs.declared.drains.Drained.{Drained}
use Rattle.lent.specs.Drain.{read_rhr, single_read, after_reads, replies_of, named_channel, is_open, least_of, part_length, drained_of, part_of, Emptied}
use Rattle.lent.specs.Reads.{channel_after, channel_replies, Open}

-- ---- a read of RHR at a channel sets no register, and without LCR 7 it is RHR that address 0 names
pub read_keeps_settings : (ch : Channel) → (touched_by ch read_rhr).settings ≡ ch.settings
unfolding settings_after setting_by
read_keeps_settings ch = touched_settings ch read_rhr

pub rhr_open : (ch : Channel) → not (bit_at ch.settings.lcr 7) ≡ true → Open ch
unfolding register_at general_at
rhr_open ch clear = rw clear

-- ---- reads of RHR one after the other
module _ (channel : ℕ) (named : channel ≤ 1) where
  abbrev at : Side
  at = side_numbered channel

  -- a single read touches the channel that it names, and nothing else
  read_named : (d : Device) → single_read d channel
      ≡ record { device = with_channel d at (touched_by (channel_at d at) read_rhr); answer = Ok (step_at (channel_at d at) read_rhr).reply }
  unfolding answered_of step_of named_step touched_at resets_by
  read_named d = rw (in_range_judged (event.At channel read_rhr) (omega arith, omega arith))

  -- so many of them come to as many at that channel
  pub reads_named : (n : ℕ) (d : Device) → after_reads d channel n ≡ with_channel d at (channel_after (channel_at d at) n)
  unfolding after_reads channel_after
  reads_named zero d = sym (same_with d at)
  reads_named (suc n) d =
      let read = touched_by (channel_at d at) read_rhr in
      rw (read_named d)
      (reads_named n (with_channel d at read) ∙ rw (own_with d at read) (again_with d at read (channel_after read n)))

  pub replies_named : (n : ℕ) (d : Device) → replies_of d channel n ≡ channel_replies (channel_at d at) n
  unfolding replies_of channel_replies answer_number
  replies_named zero d = refl
  replies_named (suc n) d =
      let read = touched_by (channel_at d at) read_rhr in
      rw (read_named d)
      (ap (λ replies. (step_at (channel_at d at) read_rhr).reply ∷ replies) (rw (own_with d at read) at (replies_named n (with_channel d at read))))

-- ---- a drain: the part is no longer than the buffer, and what it takes is taken at the channel that the number names
pub part_within : (d : Device) (channel most room : ℕ) → part_length d channel most room ≤ room
unfolding part_length
part_within d channel most room =
    pick_by (λ (n : ℕ). n ≤ room) (is_open d channel) (λ _. min-le_right (min most (named_channel d channel).rx.count) room) (λ _. omega arith)

open_named : (d : Device) (channel : ℕ) → is_open d channel ≡ true → channel ≤ 1
unfolding is_open
open_named d channel h = leb-true channel 1 (both_hold (leb channel 1) _ h).0

pub reads_made : (d : Device) (channel most room : ℕ)
    → after_reads d channel (part_length d channel most room)
    ≡ with_channel d (side_numbered channel) (channel_after (named_channel d channel) (part_length d channel most room))
unfolding part_length after_reads channel_after
reads_made d channel most room =
    pick_by (λ (n : ℕ). after_reads d channel n ≡ with_channel d (side_numbered channel) (channel_after (named_channel d channel) n)) (is_open d channel)
    (λ h. reads_named channel (open_named d channel h) (least_of d channel most room) d) (λ _. sym (same_with d (side_numbered channel)))

pub replies_made : (d : Device) (channel most room : ℕ)
    → part_of d channel most room ≡ channel_replies (named_channel d channel) (part_length d channel most room)
unfolding part_of part_length replies_of channel_replies
replies_made d channel most room =
    pick_by (λ (n : ℕ). replies_of d channel n ≡ channel_replies (named_channel d channel) n) (is_open d channel)
    (λ h. replies_named channel (open_named d channel h) (least_of d channel most room) d) (λ _. refl)

-- "as many single reads as the part is long"
replies_count : (n : ℕ) (d : Device) (channel : ℕ) → length (replies_of d channel n) ≡ n
unfolding replies_of
replies_count zero d channel = refl
replies_count (suc n) d channel = ap (λ k. suc k) (replies_count n (single_read d channel).device channel)

pub part_count : (d : Device) (channel most room : ℕ) → length (part_of d channel most room) ≡ part_length d channel most room
unfolding part_of
part_count d channel most room = replies_count (part_length d channel most room) d channel

-- ---- every drain keeps the record well formed
well_formed_reads : (n : ℕ) (d : Device) (channel : ℕ) → WellFormed d → WellFormed (after_reads d channel n)
unfolding after_reads
well_formed_reads zero d channel ok = ok
well_formed_reads (suc n) d channel ok =
    let read = event.At channel read_rhr in
    well_formed_reads n (single_read d channel).device channel (well_formed_answered d (judged_of read) (judged_in read) ok)

pub well_formed_emptied : {before : Device} {channel most : ℕ} {buffer filled : List ℕ} {left : Drained}
    → WellFormed before → Emptied before channel most buffer left filled → WellFormed left.device
unfolding drained_of
well_formed_emptied {before} {channel} {most} {buffer} ok emptied =
    rw emptied.left_is (well_formed_reads (part_length before channel most (length buffer)) before channel ok)

-- a drain leaves one device, one count and one buffer
pub emptied_once : {before : Device} {channel most : ℕ} {buffer filled another : List ℕ} {left other : Drained}
    → Emptied before channel most buffer left filled → Emptied before channel most buffer other another → (left ≡ other) × (filled ≡ another)
emptied_once one two = (one.left_is ∙ sym two.left_is, one.filled_is ∙ sym two.filled_is)
