-- Laws: the bound of a room.
use Rattle.std.specs.Prelude.{ℕ, ◌≤◌}
use Rattle.std.proofs.Common.{arith}
use Rattle.bits.specs.Choice.{pick_by}
use Rattle.bits.specs.Bits.{bit_at}
use Rattle.registers.specs.declared.settings.Settings.{Settings}
use Rattle.levels.specs.Queues.{room_of}

pub room_in : (s : Settings) → room_of s ≤ 64
unfolding room_of
room_in s = pick_by (λ (n : ℕ). n ≤ 64) (bit_at s.fcr 0) (λ _. omega arith) (λ _. omega arith)
