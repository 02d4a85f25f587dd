-- Definitions: "Receive queue": what the stored registers make of an arrival, before any queue is looked at.
use Rattle.std.specs.Prelude.{ℕ, Bool, true, false, not, ◌&&◌, eqb, Some, None}
use Rattle.bits.specs.Choice.{pick}
use Rattle.bits.specs.Bits.{bit_at, replaced_at, cut_to}
use Rattle.registers.specs.declared.register.Register.TheVariants as register
use Rattle.registers.specs.declared.settings.Setting.{Setting}
use Rattle.registers.specs.declared.settings.Settings.{Settings}
use Rattle.registers.specs.declared.pair.Pair.{Pair}
use Rattle.registers.specs.Pairs.{chooses_pair, pair_at}
use Rattle.receiver.specs.declared.arrival.Gate.{Gate}
use Rattle.receiver.specs.declared.arrival.Gate.TheVariants as gate
use Rattle.receiver.specs.declared.arrival.Heard.{Heard}
use Rattle.receiver.specs.declared.arrival.Mode.{Mode}
use Rattle.receiver.specs.declared.arrival.Mode.TheVariants as mode

-- "EFCR 0 clear", "EFCR 0 set, EFR 5 clear", "EFCR 0 and EFR 5 set"
unfoldable pub mode_of : Settings → Mode
mode_of s = pick (not (bit_at s.efcr 0)) mode.Plain (pick (not (bit_at s.efr 5)) mode.Ninth mode.Address)

-- "a break's byte counts as 0; the byte is cut to the word length": mark 4 is a break
unfoldable pub arrived_byte : Settings → ℕ → ℕ → ℕ
arrived_byte s byte mark = cut_to (pick (bit_at mark 2) 0 byte) s.lcr

-- ".. and compared so with the whole XOFF2"
unfoldable pub equals_xoff2 : Settings → ℕ → ℕ → Bool
equals_xoff2 s byte mark = eqb (arrived_byte s byte mark) s.xoff2

unfoldable pub does_pass : Gate → Bool
does_pass gate.Passes = true
does_pass gate.Off = false
does_pass gate.Elsewhere = false
does_pass gate.Xoff = false
does_pass gate.Xon = false

-- "passes unless EFCR 1 is set (2)"
unfoldable pub unless_off : Settings → Gate
unless_off s = pick (bit_at s.efcr 1) gate.Off gate.Passes

-- EFCR with bit 1 as a byte has it
unfoldable pub receiver_set : Settings → ℕ → Setting
receiver_set s byte = record { register = register.Efcr; byte = replaced_at s.efcr byte 1 1 }

-- "EFR 5 is set and it equals XOFF2"
unfoldable pub special_match : Settings → ℕ → ℕ → Bool
special_match s byte mark = bit_at s.efr 5 && equals_xoff2 s byte mark

-- ".. and equals, cut, the whole Xoff ..; one equal to Xon .. If the two are equal, Xoff decides."
unfoldable pub taken_as : Pair → ℕ → Gate
taken_as pair character = pick (eqb character pair.xoff) gate.Xoff (pick (eqb character pair.xon) gate.Xon gate.Passes)

-- "a passing, unmarked character that wasn't a special match" is so compared
unfoldable pub compared_as : Settings → ℕ → ℕ → Gate
compared_as s byte mark =
    pick (eqb mark 0 && not (special_match s byte mark)) (taken_as (pair_at s 0) (arrived_byte s byte mark)) gate.Passes

-- "EFCR 0 clear: dropped (2) if EFCR 1 is set. Otherwise it passes"; "EFR 1:0 of 10 compares .., 01 the second pair, 00 and 11
-- nothing yet"
unfoldable pub gate_plain : Settings → ℕ → ℕ → Gate
gate_plain s byte mark =
    pick (bit_at s.efcr 1) gate.Off (pick (chooses_pair s.efr 0) (compared_as s byte mark) gate.Passes)

-- ".. it passes, and if EFR 5 is set and it equals XOFF2 the special flag is set."
unfoldable pub heard_plain : Settings → ℕ → ℕ → Heard
heard_plain s byte mark =
    record {
      gate = gate_plain s byte mark;
      special = not (bit_at s.efcr 1) && special_match s byte mark;
      setting = None;
    }

-- "ninth bit 0 passes unless EFCR 1 is set (2)"
unfoldable pub as_data : Settings → Heard
as_data s = record { gate = unless_off s; special = false; setting = None }

-- "EFCR 0 set, EFR 5 clear: ninth bit 1 passes; ninth bit 0 passes unless EFCR 1 is set (2)." The ninth bit is mark 1.
unfoldable pub heard_ninth : Settings → ℕ → Heard
heard_ninth s mark = pick (not (bit_at mark 0)) (as_data s) (record { gate = gate.Passes; special = false; setting = None })

-- "EFCR 0 and EFR 5 set: ninth bit 1 and equal to XOFF2 clears EFCR 1 and passes; ninth bit 1 and unequal sets EFCR 1 and is
-- dropped (3); ninth bit 0 as in the line above. No special flag."
unfoldable pub heard_address : Settings → ℕ → ℕ → Heard
heard_address s byte mark =
    pick (not (bit_at mark 0)) (as_data s)
    (pick (equals_xoff2 s byte mark)
    (record { gate = gate.Passes; special = false; setting = Some (receiver_set s 0) })
    (record { gate = gate.Elsewhere; special = false; setting = Some (receiver_set s 2) }))

-- by the mode
abbrev pub heard_in : Mode → Settings → ℕ → ℕ → Heard
heard_in mode.Plain s byte mark = heard_plain s byte mark
heard_in mode.Ninth s byte mark = heard_ninth s mark
heard_in mode.Address s byte mark = heard_address s byte mark

-- what becomes of an arrival by the stored registers, whether it sets the special flag, and the register that it sets
unfoldable pub heard_of : Settings → ℕ → ℕ → Heard
heard_of s byte mark = heard_in (mode_of s) s byte mark
