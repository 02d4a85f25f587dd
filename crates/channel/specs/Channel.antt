-- Definitions: a channel: what may be asked of its record, and what is seen of it from outside.
use Rattle.std.specs.Prelude.{ℕ, Bool, not, ◌&&◌, eqb}
use Rattle.bits.specs.Choice.{pick}
use Rattle.queue.specs.Queue as queue
use Rattle.queue.specs.Queue.{Below, oldest_of, any_mark_of}
use Rattle.levels.specs.declared.trigger.Characters.{Characters}
use Rattle.levels.specs.declared.trigger.Spaces.{Spaces}
use Rattle.registers.specs.declared.register.Register.{Register}
use Rattle.registers.specs.declared.register.Register.TheVariants as register
use Rattle.registers.specs.Windows.{same}
use Rattle.registers.specs.Bounds.{SettingsIn}
use Rattle.receiver.specs.declared.line.Status.{Status}
use Rattle.receiver.specs.Line.{lsr_of}
use Rattle.lines.specs.Transmit.{spaces_of, all_free, is_busy}
use Rattle.lines.specs.Rts.{rts_of}
use Rattle.lines.specs.Modem.{msr_of}
use Rattle.interrupts.specs.declared.interrupt.Interrupt.{Interrupt}
use Rattle.interrupts.specs.declared.interrupt.Interrupt.TheVariants as interrupt
use Rattle.interrupts.specs.Interrupts.{pending_of, iir_of}
use Rattle.channel.specs.declared.channel.Channel.{Channel}
use Rattle.channel.specs.State.{LinesIn}

-- what may be asked of a record: "its counts, places and stored values within their bounds"
pub record WellFormed (ch : Channel) : Type 0 where
  pub settings_in : SettingsIn ch.settings
  pub lines_in : LinesIn ch.state
  pub rx_in : queue.WellFormed ch.rx
  pub bytes_in : Below 256 ch.rx.bytes
  pub marks_in : Below 8 ch.rx.marks
  pub tx_in : queue.WellFormed ch.tx
  pub sent_bytes_in : Below 256 ch.tx.bytes
  pub sent_marks_in : Below 8 ch.tx.marks

-- the characters received, and the free spaces of the transmit queue
abbrev pub received_at : Channel → Characters
received_at ch = record { 0 = ch.rx.count }

abbrev pub free_at : Channel → Spaces
free_at ch = spaces_of ch.tx.count

-- the highest interrupt pending; LSR 7 is "some queued mark not 0"
unfoldable pub pending_at : Channel → Interrupt
pending_at ch =
    pending_of ch.settings ch.state.line ch.state.modem ch.state.flow ch.state.flags (received_at ch) (any_mark_of ch.rx)

unfoldable pub rts_asserted : Channel → Bool
rts_asserted ch = rts_of ch.settings ch.state.latch (is_busy ch.state.shift (free_at ch))

-- the interrupt that a read shows, "from the state before the read": one of IIR alone shows any
unfoldable pub shown_at : Channel → Register → Interrupt
shown_at ch read = pick (same read register.IirFcr) (pending_at ch) interrupt.Nothing

-- what LSR is made of; "LSR 6 then also needs nothing waiting."
unfoldable pub status_of : Channel → Status
status_of ch =
    record {
      ready = not (eqb ch.rx.count 0);
      overrun = ch.state.line.overrun;
      mark = (oldest_of ch.rx).mark;
      sent = all_free (free_at ch);
      idle = all_free (free_at ch) && not ch.state.shift.full && not ch.state.flow.waits;
      error = any_mark_of ch.rx;
    }

-- what a read of a register gives, where it shows the interrupt `shown`
unfoldable pub read_of : Channel → Register → Interrupt → ℕ
read_of ch register.RhrThr shown = (oldest_of ch.rx).byte
read_of ch register.Ier shown = ch.settings.ier
read_of ch register.IirFcr shown = iir_of shown ch.settings
read_of ch register.Lcr shown = ch.settings.lcr
read_of ch register.Mcr shown = ch.settings.mcr
read_of ch register.Lsr shown = lsr_of (status_of ch)
read_of ch register.Msr shown = msr_of ch.state.modem
read_of ch register.Spr shown = ch.settings.spr
read_of ch register.Txlvl shown = (free_at ch).0
read_of ch register.Rxlvl shown = (received_at ch).0
-- "IOControl reads 06 (house: the board wires modem pins)"
read_of ch register.IoControl shown = 0x06
read_of ch register.Efcr shown = ch.settings.efcr
read_of ch register.Tcr shown = ch.settings.tcr
read_of ch register.Tlr shown = ch.settings.tlr
read_of ch register.Dll shown = ch.settings.dll
read_of ch register.Dlh shown = ch.settings.dlh
read_of ch register.Efr shown = ch.settings.efr
read_of ch register.Xon1 shown = ch.settings.xon1
read_of ch register.Xon2 shown = ch.settings.xon2
read_of ch register.Xoff1 shown = ch.settings.xoff1
read_of ch register.Xoff2 shown = ch.settings.xoff2
-- "Any other address is closed there: reads 0"
read_of ch register.Closed shown = 0
