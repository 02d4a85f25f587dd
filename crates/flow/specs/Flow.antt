-- Definitions: Xon and Xoff: a stop, the second latch and a byte that waits, and what becomes of each.
use Rattle.std.specs.Prelude.{ℕ, Bool, true, false, not, ◌&&◌, ◌||◌}
use Rattle.bits.specs.Choice.{pick}
use Rattle.bits.specs.Bits.{differs, bit_at}
use Rattle.registers.specs.declared.pair.Pair.{Pair}
use Rattle.registers.specs.declared.register.Register.{Register}
use Rattle.registers.specs.declared.register.Register.TheVariants as register
use Rattle.registers.specs.declared.settings.Settings.{Settings}
use Rattle.registers.specs.Windows.{same}
use Rattle.registers.specs.Pairs.{chooses_pair}
use Rattle.levels.specs.declared.trigger.Characters.{Characters}
use Rattle.levels.specs.Queues.{transmits}
use Rattle.receiver.specs.declared.arrival.Gate.{Gate}
use Rattle.receiver.specs.declared.arrival.Gate.TheVariants as gate
use Rattle.lines.specs.Rts.{latch_driven}
use Rattle.flow.specs.declared.flow.Flow.{Flow}

-- ---- the stop, which is the Xoff flag too
-- ".. the whole Xoff stops loading and sets an Xoff flag; one equal to Xon resumes and clears it." "With MCR 5, any other passing
-- character also resumes, clears the flag"
unfoldable pub stopped_by : Bool → Settings → Gate → Bool
stopped_by stopped s gate.Passes = stopped && not (bit_at s.mcr 5)
stopped_by stopped s gate.Off = stopped
stopped_by stopped s gate.Elsewhere = stopped
stopped_by stopped s gate.Xoff = true
stopped_by stopped s gate.Xon = false

unfoldable pub flow_heard : Flow → Settings → Gate → Flow
flow_heard f s g = record { stopped = stopped_by f.stopped s g; latch = f.latch; waits = f.waits; byte = f.byte }

-- ---- a write to EFR
-- "Setting EFR 1:0 to 00 or 11 resumes and clears it too." "EFR 3:2 set to 00 or 11, drops what waits and sets the latch on"
unfoldable pub efr_written : Flow → ℕ → Flow
efr_written f efr =
    record {
      stopped = f.stopped && chooses_pair efr 0;
      latch = f.latch || not (chooses_pair efr 2);
      waits = f.waits && chooses_pair efr 2;
      byte = pick (chooses_pair efr 2) f.byte 0;
    }

unfoldable pub flow_written : Flow → Register → ℕ → Flow
flow_written f written byte = pick (same written register.Efr) (efr_written f byte) f

-- ---- a slot
-- ".. waits .., and the next slot with EFCR 2 clear loads it before the queue, despite a stop or CTS"
unfoldable pub sends_waiting : Flow → Settings → Bool
sends_waiting f s = f.waits && transmits s

-- whether the queue may be loaded from: no Xoff "stops loading", and nothing is loaded "before the queue"
unfoldable pub free_to_load : Flow → Bool
free_to_load f = not f.stopped && not f.waits

-- what is loaded no longer waits
unfoldable pub flow_sent : Flow → Bool → Flow
flow_sent f sends =
    record { stopped = f.stopped; latch = f.latch; waits = f.waits && not sends; byte = pick sends 0 f.byte }

-- ---- after the act
-- "each time it turns, Xoff for off or Xon for on waits, the byte as stored then, replacing one still waiting"
unfoldable pub flow_turned : Flow → Pair → Bool → Flow
flow_turned f pair latch =
    pick (differs f.latch latch)
    (record { stopped = f.stopped; latch = latch; waits = true; byte = pick latch pair.xon pair.xoff })
    f

-- "While EFR 3:2 sends, the halt and resume rule drives a second latch", where it chooses this pair
unfoldable pub flow_settled : Flow → Settings → Pair → Characters → Flow
flow_settled f s pair received =
    pick (chooses_pair s.efr 2) (flow_turned f pair (latch_driven s received f.latch)) f
