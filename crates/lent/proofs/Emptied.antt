-- Laws: what a drain leaves: the part in front and the later bytes behind it, and nothing changed where no read is made.
use Rattle.std.specs.Prelude.{ℕ, ◌≤◌, ◌≡◌, List, length, take, drop}
use Rattle.std.proofs.Common.{sym}
use Rattle.std.proofs.Math.Seq.{take-append_seam, drop-append_seam}
use Rattle.device.specs.declared.device.Device.{Device}
use Rattle.lent.specs.declared.drains.Drained.{Drained}
use Rattle.lent.specs.Drain.{after_reads, replies_of, part_length, drained_of, part_of, filled_by, Emptied}
use Rattle.lent.specs.DrainLaws.{part_within, part_count}

-- the part that was filled stands in front, and behind it the buffer is as it was
module _ (d : Device) (channel most : ℕ) (buffer filled : List ℕ) (left : Drained) (emptied : Emptied d channel most buffer left filled) where
  abbrev part : List ℕ
  part = part_of d channel most (length buffer)

  abbrev later : List ℕ
  later = drop (part_length d channel most (length buffer)) buffer

  count_part : left.count ≡ length part
  unfolding drained_of
  count_part = rw emptied.left_is (sym (part_count d channel most (length buffer)))

  pub in_front : take left.count filled ≡ part
  unfolding filled_by
  in_front = rw (emptied.filled_is, count_part) (take-append_seam part later)

  pub behind : drop left.count filled ≡ later
  unfolding filled_by
  behind = rw (emptied.filled_is, count_part) (drop-append_seam part later)

  pub count_within : left.count ≤ length buffer
  unfolding drained_of
  count_within = rw emptied.left_is (part_within d channel most (length buffer))

  pub device_left : left.device ≡ (drained_of d channel most (length buffer)).device
  device_left = rw emptied.left_is

-- "the part is empty and nothing changes"
pub none_drained : (d : Device) (channel most : ℕ) (buffer : List ℕ) → part_length d channel most (length buffer) ≡ 0
    → (drained_of d channel most (length buffer) ≡ record { device = d; count = 0 }) × (filled_by d channel most buffer ≡ buffer)
unfolding drained_of filled_by part_of after_reads replies_of
none_drained d channel most buffer none = (rw none, rw none)
