-- Definitions: the flags of "Interrupts": what sets and what clears them.
use Rattle.std.specs.Prelude.{Bool, true, false, not, ◌&&◌, ◌||◌}
use Rattle.bits.specs.Choice.{pick}
use Rattle.interrupts.specs.declared.flags.Flags.{Flags}
use Rattle.interrupts.specs.declared.flags.Moment.{Moment}
use Rattle.interrupts.specs.declared.interrupt.Interrupt.{Interrupt}
use Rattle.interrupts.specs.declared.interrupt.Interrupt.TheVariants as interrupt

-- "Reading it clears the THR flag if 02 was shown, the special flag if 10, CTS and RTS flags if 20."
unfoldable pub flags_cleared : Flags → Interrupt → Flags
flags_cleared f interrupt.LineStatus = f
flags_cleared f interrupt.Timeout = f
flags_cleared f interrupt.Receive = f
flags_cleared f interrupt.Transmit = record { special = f.special; cts = f.cts; rts = f.rts; thr = false }
flags_cleared f interrupt.Modem = f
flags_cleared f interrupt.Special = record { special = false; cts = f.cts; rts = f.rts; thr = f.thr }
flags_cleared f interrupt.Flow = record { special = f.special; cts = false; rts = false; thr = f.thr }
flags_cleared f interrupt.Nothing = f

-- a special match sets the special flag
unfoldable pub flags_arrived : Flags → Bool → Flags
flags_arrived f special = record { special = f.special || special; cts = f.cts; rts = f.rts; thr = f.thr }

-- CTS going off sets the CTS flag
unfoldable pub flags_pins : Flags → Bool → Flags
flags_pins f off = record { special = f.special; cts = f.cts || off; rts = f.rts; thr = f.thr }

-- "After each event the flag sets if the condition has become true and clears if it is false."
unfoldable pub thr_settled : Bool → Bool → Bool → Bool
thr_settled flag before after = pick (not after) false (pick (not before) true flag)

-- "The RTS flag sets when RTS goes from asserted to not"; then the THR flag
unfoldable pub flags_settled : Flags → Moment → Moment → Flags
flags_settled f before after =
    record {
      special = f.special;
      cts = f.cts;
      rts = f.rts || before.rts && not after.rts;
      thr = thr_settled f.thr before.thr after.thr;
    }
