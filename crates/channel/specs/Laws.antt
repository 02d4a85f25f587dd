-- Laws: what is within its bounds stays so: the lines with one of them anew, an act with what settles after it, and the
-- channel after a step; and that a read gives a byte.
use Rattle.std.specs.Prelude.{◌<◌, ◌≤◌, Bool}
use Rattle.std.proofs.Common.{arith}
use Rattle.queue.specs.Laws.{queue_after, bytes_after, marks_after, oldest_byte_below, oldest_mark_below}
use Rattle.registers.specs.declared.register.Register.{Register}
use Rattle.registers.specs.declared.register.Register.TheVariants as register
use Rattle.registers.specs.Bounds.{SettingsIn}
use Rattle.registers.specs.Pairs.{pair_at}
use Rattle.registers.specs.Laws.{settings_in, pair_in}
use Rattle.receiver.specs.declared.line.Line.{Line}
use Rattle.receiver.specs.Laws.{lsr_fits}
use Rattle.lines.specs.declared.transmit.Shift.{Shift}
use Rattle.lines.specs.declared.modem.Modem.{Modem}
use Rattle.lines.specs.Transmit.{spaces_of}
use Rattle.lines.specs.Modem.{ModemIn}
use Rattle.lines.specs.Laws.{msr_fits}
use Rattle.flow.specs.declared.flow.Flow.{Flow}
use Rattle.flow.specs.Laws.{settled_byte_in}
use Rattle.interrupts.specs.declared.flags.Flags.{Flags}
use Rattle.interrupts.specs.declared.interrupt.Interrupt.{Interrupt}
use Rattle.interrupts.specs.Laws.{iir_fits}
use Rattle.channel.specs.declared.settle.Act.{Act}
use Rattle.channel.specs.declared.settle.Step.{Step}
use Rattle.channel.specs.declared.channel.Channel.{Channel}
use Rattle.channel.specs.declared.state.State.{State}
use Rattle.channel.specs.State.{LinesIn, with_line, with_shift, with_modem, with_flags, with_latch, with_flow}
use Rattle.channel.specs.Channel.{WellFormed, status_of, read_of}
use Rattle.channel.specs.Settle.{ActIn, StepIn, settings_by, settled_of, after_step}

-- ---- the lines with one of them anew
module _ (s : State) (ok : LinesIn s) where
  pub with_line_in : (line : Line) → line.quiet ≤ 4 → LinesIn (with_line s line)
  unfolding with_line
  with_line_in line h = record { quiet_in = h; shift_in = ok.shift_in; modem_in = ok.modem_in; flow_in = ok.flow_in }

  pub with_shift_in : (shift : Shift) → shift.byte < 256 → LinesIn (with_shift s shift)
  unfolding with_shift
  with_shift_in shift h = record { quiet_in = ok.quiet_in; shift_in = h; modem_in = ok.modem_in; flow_in = ok.flow_in }

  pub with_modem_in : (modem : Modem) → ModemIn modem → LinesIn (with_modem s modem)
  unfolding with_modem
  with_modem_in modem h = record { quiet_in = ok.quiet_in; shift_in = ok.shift_in; modem_in = h; flow_in = ok.flow_in }

  pub with_flags_in : (flags : Flags) → LinesIn (with_flags s flags)
  unfolding with_flags
  with_flags_in flags = record { quiet_in = ok.quiet_in; shift_in = ok.shift_in; modem_in = ok.modem_in; flow_in = ok.flow_in }

  pub with_latch_in : (latch : Bool) → LinesIn (with_latch s latch)
  unfolding with_latch
  with_latch_in latch = record { quiet_in = ok.quiet_in; shift_in = ok.shift_in; modem_in = ok.modem_in; flow_in = ok.flow_in }

  pub with_flow_in : (flow : Flow) → flow.byte < 256 → LinesIn (with_flow s flow)
  unfolding with_flow
  with_flow_in flow h = record { quiet_in = ok.quiet_in; shift_in = ok.shift_in; modem_in = ok.modem_in; flow_in = h }

-- ---- an act with what settles after it
pub settled_in : (ch : Channel) (act : Act) → WellFormed ch → ActIn act → StepIn (settled_of ch act)
unfolding settled_of
settled_in ch act ok h =
    let stored : SettingsIn (settings_by ch act) = settings_in ch.settings act.setting ok.settings_in h.setting_in in
    record {
      settings_in = stored;
      lines_in =
          with_flow_in _ (with_latch_in _ (with_flags_in act.state h.lines_in _) _) _
          (settled_byte_in act.state.flow h.lines_in.flow_in (settings_by ch act) (pair_at (settings_by ch act) 2) _ (pair_in (settings_by ch act) 2 stored));
      rx_in = h.rx_in;
      tx_in = h.tx_in;
      reply_in = h.reply_in;
    }

-- ---- the channel after a step
pub well_formed_stepped : (ch : Channel) (step : Step) → WellFormed ch → StepIn step → WellFormed (after_step ch step)
unfolding after_step
well_formed_stepped ch step ok h =
    record {
      settings_in = h.settings_in;
      lines_in = h.lines_in;
      rx_in = queue_after ch.rx step.rx h.rx_in ok.rx_in;
      bytes_in = bytes_after ch.rx step.rx h.rx_in ok.bytes_in;
      marks_in = marks_after ch.rx step.rx h.rx_in ok.marks_in;
      tx_in = queue_after ch.tx step.tx h.tx_in ok.tx_in;
      sent_bytes_in = bytes_after ch.tx step.tx h.tx_in ok.sent_bytes_in;
      sent_marks_in = marks_after ch.tx step.tx h.tx_in ok.sent_marks_in;
    }

-- ---- a read gives a byte
pub mark_shown_in : (ch : Channel) → WellFormed ch → (status_of ch).mark < 8
unfolding status_of
mark_shown_in ch ok = oldest_mark_below 8 ch.rx (omega arith) ok.marks_in

pub read_fits : (ch : Channel) (r : Register) (shown : Interrupt) → WellFormed ch → read_of ch r shown < 256
unfolding read_of spaces_of
read_fits ch register.RhrThr shown ok = oldest_byte_below 256 ch.rx (omega arith) ok.bytes_in
read_fits ch register.Ier shown ok = ok.settings_in.ier_in.byte_in
read_fits ch register.IirFcr shown ok = iir_fits shown ch.settings
read_fits ch register.Lcr shown ok = ok.settings_in.lcr_in.byte_in
read_fits ch register.Mcr shown ok = ok.settings_in.mcr_in.byte_in
read_fits ch register.Lsr shown ok = lsr_fits (status_of ch) (mark_shown_in ch ok)
read_fits ch register.Msr shown ok = msr_fits ch.state.modem ok.lines_in.modem_in
read_fits ch register.Spr shown ok = ok.settings_in.spr_in.byte_in
read_fits ch register.Txlvl shown ok = omega arith
read_fits ch register.Rxlvl shown ok = omega (arith, ok.rx_in.count_in)
read_fits ch register.IoControl shown ok = omega arith
read_fits ch register.Efcr shown ok = ok.settings_in.efcr_in.byte_in
read_fits ch register.Tcr shown ok = ok.settings_in.tcr_in.byte_in
read_fits ch register.Tlr shown ok = ok.settings_in.tlr_in.byte_in
read_fits ch register.Dll shown ok = ok.settings_in.dll_in.byte_in
read_fits ch register.Dlh shown ok = ok.settings_in.dlh_in.byte_in
read_fits ch register.Efr shown ok = ok.settings_in.efr_in.byte_in
read_fits ch register.Xon1 shown ok = ok.settings_in.xon1_in.byte_in
read_fits ch register.Xon2 shown ok = ok.settings_in.xon2_in.byte_in
read_fits ch register.Xoff1 shown ok = ok.settings_in.xoff1_in.byte_in
read_fits ch register.Xoff2 shown ok = ok.settings_in.xoff2_in.byte_in
read_fits ch register.Closed shown ok = omega arith
