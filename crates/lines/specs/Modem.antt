-- Definitions: "Pins", of "Interrupts". Pin values: CD 8, RI 4, DSR 2, CTS 1.
use Rattle.std.specs.Prelude.{ℕ, ◌+◌, ◌*◌, ◌<◌, Bool, not, ◌&&◌}
use Rattle.std.specs.Int.Bits.{bit_and, bit_or, bit_xor}
use Rattle.bits.specs.Choice.{pick}
use Rattle.bits.specs.Bits.{bit_at}
use Rattle.registers.specs.declared.register.Register.{Register}
use Rattle.registers.specs.declared.register.Register.TheVariants as register
use Rattle.registers.specs.declared.settings.Settings.{Settings}
use Rattle.registers.specs.Windows.{same}
use Rattle.lines.specs.declared.modem.Modem.{Modem}

-- the pins and their changes within their bounds, four bits each
pub record ModemIn (m : Modem) : Type 0 where
  pub pins_in : m.pins < 16
  pub changes_in : m.changes < 16

unfoldable pub cts_asserted : Modem → Bool
cts_asserted m = bit_at m.pins 0

-- "CTS going off sets the CTS flag unless EFR 7 is set."
unfoldable pub cts_off : Modem → Settings → ℕ → Bool
cts_off m s value = cts_asserted m && not (bit_at value 0) && not (bit_at s.efr 7)

-- "MSR 3:0 are set by any change of the same pin", MSR 2 "only when RI goes from asserted to not asserted": the bits where old
-- and new value differ join those that were set, of CD, DSR and CTS, and of an RI that was asserted
unfoldable pub pins_changed : Modem → ℕ → Modem
pins_changed m value =
    record {
      pins = value;
      changes = bit_or m.changes (bit_and (bit_xor m.pins value) (bit_or (8 + 2 + 1) (bit_and m.pins 4)));
    }

-- ".. and cleared by an MSR read"
unfoldable pub modem_read : Modem → Register → Modem
modem_read m read = record { pins = m.pins; changes = pick (same read register.Msr) 0 m.changes }

-- "MSR 7:4 show CD, RI, DSR, CTS; MSR 3:0" the changes
unfoldable pub msr_of : Modem → ℕ
msr_of m = m.changes + m.pins * 16
