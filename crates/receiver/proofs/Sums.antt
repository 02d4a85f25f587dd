-- For proofs alone: LSR joined from its parts is the sum that the definition states.
use Prim.Native.Nat.{ℕ, ◌+◌, ◌*◌, ◌<◌, ◌≤◌}
use native.Mathlib.Omega.{arith}
use mathlib.Core.Path.{◌≡◌}
use Rattle.bits.specs.Bits.{one_if, joined_at}
use Rattle.bits.specs.Laws.{flag_in, joined_sum}
use Rattle.receiver.specs.declared.line.Status.{Status}
use Rattle.receiver.specs.Line.{lsr_of}

six_parts : (a b m c d e : ℕ) → a ≤ 1 → b ≤ 1 → m < 8 → c ≤ 1 → d ≤ 1 → e ≤ 1
    → joined_at (joined_at (joined_at (joined_at (joined_at a 1 b) 2 m) 5 c) 6 d) 7 e ≡ a + b * 2 + m * 4 + c * 32 + d * 64 + e * 128
six_parts a b m c d e ha hb hm hc hd he =
    rw (
      joined_sum a 1 b (omega arith) (omega arith),
      joined_sum (a + b * 2) 2 m (omega arith) (omega arith),
      joined_sum (a + b * 2 + m * 4) 5 c (omega arith) (omega arith),
      joined_sum (a + b * 2 + m * 4 + c * 32) 6 d (omega arith) (omega arith),
      joined_sum (a + b * 2 + m * 4 + c * 32 + d * 64) 7 e (omega arith) (omega arith),
    )

pub lsr_sum : (l : Status) → l.mark < 8
    → joined_at (joined_at (joined_at (joined_at (joined_at (one_if l.ready) 1 (one_if l.overrun)) 2 l.mark) 5 (one_if l.sent)) 6 (one_if l.idle)) 7 (one_if l.error)
    ≡ lsr_of l
unfolding lsr_of
lsr_sum l m =
    six_parts (one_if l.ready) (one_if l.overrun) l.mark (one_if l.sent) (one_if l.idle) (one_if l.error)
    (flag_in l.ready) (flag_in l.overrun) m (flag_in l.sent) (flag_in l.idle) (flag_in l.error)
