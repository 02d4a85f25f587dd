-- Definitions: what the stored registers say of the queues.
use Rattle.std.specs.Prelude.{ℕ, Bool, not, ◌&&◌, ◌||◌}
use Rattle.bits.specs.Choice.{pick}
use Rattle.bits.specs.Bits.{differs, bit_at}
use Rattle.registers.specs.declared.register.Register.{Register}
use Rattle.registers.specs.declared.register.Register.TheVariants as register
use Rattle.registers.specs.declared.settings.Settings.{Settings}
use Rattle.registers.specs.Windows.{same}

-- "Room is 64 with FCR 0 set, 1 without"
unfoldable pub room_of : Settings → ℕ
room_of s = pick (bit_at s.fcr 0) 64 1

-- "a change of bit 0"
unfoldable pub fifo_changes : Settings → ℕ → Bool
fifo_changes s byte = differs (bit_at s.fcr 0) (bit_at byte 0)

-- "An FCR write with bit 1 set clears the receive queue, with bit 2 the transmit queue; a change of bit 0 clears both (house)."
unfoldable pub clears : Settings → Register → ℕ → ℕ → Bool
clears s written byte bit = same written register.IirFcr && (bit_at byte bit || fifo_changes s byte)

-- "EFCR 2 is clear"
unfoldable pub transmits : Settings → Bool
transmits s = not (bit_at s.efcr 2)

-- "the oldest is loaded if there is one, EFCR 2 is clear, and EFR 7 is clear or CTS is asserted"
unfoldable pub loads : Settings → Bool → Bool
loads s cts = transmits s && (not (bit_at s.efr 7) || cts)
