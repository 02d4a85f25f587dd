-- Definitions: the lines of a channel: their bounds, and the lines with one of them anew.
use Rattle.std.specs.Prelude.{◌<◌, ◌≤◌, Bool}
use Rattle.receiver.specs.declared.line.Line.{Line}
use Rattle.lines.specs.declared.transmit.Shift.{Shift}
use Rattle.lines.specs.declared.modem.Modem.{Modem}
use Rattle.lines.specs.Modem.{ModemIn}
use Rattle.flow.specs.declared.flow.Flow.{Flow}
use Rattle.interrupts.specs.declared.flags.Flags.{Flags}
use Rattle.channel.specs.declared.state.State.{State}

-- the lines within their bounds: "Quiet adds 1 up to 4"
pub record LinesIn (s : State) : Type 0 where
  pub quiet_in : s.line.quiet ≤ 4
  pub shift_in : s.shift.byte < 256
  pub modem_in : ModemIn s.modem
  pub flow_in : s.flow.byte < 256

unfoldable pub with_line : State → Line → State
with_line s line = record { line = line; shift = s.shift; modem = s.modem; flags = s.flags; latch = s.latch; flow = s.flow }

unfoldable pub with_shift : State → Shift → State
with_shift s shift = record { line = s.line; shift = shift; modem = s.modem; flags = s.flags; latch = s.latch; flow = s.flow }

unfoldable pub with_modem : State → Modem → State
with_modem s modem = record { line = s.line; shift = s.shift; modem = modem; flags = s.flags; latch = s.latch; flow = s.flow }

unfoldable pub with_flags : State → Flags → State
with_flags s flags = record { line = s.line; shift = s.shift; modem = s.modem; flags = flags; latch = s.latch; flow = s.flow }

unfoldable pub with_latch : State → Bool → State
with_latch s latch = record { line = s.line; shift = s.shift; modem = s.modem; flags = s.flags; latch = latch; flow = s.flow }

unfoldable pub with_flow : State → Flow → State
with_flow s flow = record { line = s.line; shift = s.shift; modem = s.modem; flags = s.flags; latch = s.latch; flow = flow }
