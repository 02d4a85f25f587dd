-- Definitions: what an event does at the channel that it names, kind by kind: "Within an event: the act, ..". The register
-- that it sets, what happens to the queues and whether the device is reset go by the stored registers (Touches), alike for
-- every kind; what becomes of the lines, and the reply, each kind says here.
use Rattle.std.specs.Prelude.{ℕ, Bool, false, not, ◌&&◌, ◌||◌, eqb, None}
use Rattle.bits.specs.Choice.{pick}
use Rattle.bits.specs.Bits.{one_if}
use Rattle.queue.specs.declared.Moved.{Moved}
use Rattle.queue.specs.Change.{Change}
use Rattle.queue.specs.Queue.{stays_as, moved_by, oldest_of}
use Rattle.event.specs.declared.events.Touch.{Touch}
use Rattle.event.specs.declared.events.Touch.TheVariants as touch
use Rattle.registers.specs.declared.register.Register.{Register}
use Rattle.registers.specs.Windows.{register_at}
use Rattle.levels.specs.Queues.{room_of, clears, loads}
use Rattle.receiver.specs.Arrivals.{heard_of}
use Rattle.receiver.specs.Line.{line_arrived, line_read, line_cleared, line_quieter, fate_number}
use Rattle.lines.specs.Transmit.{transmit_room, shift_loaded, slot_reply}
use Rattle.lines.specs.Modem.{cts_asserted, cts_off, pins_changed, modem_read}
use Rattle.flow.specs.Flow.{flow_heard, flow_written, sends_waiting, free_to_load, flow_sent}
use Rattle.interrupts.specs.Flags.{flags_cleared, flags_arrived, flags_pins}
use Rattle.channel.specs.declared.settle.Act.{Act}
use Rattle.channel.specs.declared.channel.Channel.{Channel}
use Rattle.channel.specs.declared.state.State.{State}
use Rattle.channel.specs.State.{with_line, with_shift, with_modem, with_flags, with_flow}
use Rattle.channel.specs.Channel.{rts_asserted, shown_at, read_of}
use Rattle.acts.specs.Touches.{setting_by, receive_change, transmit_change, resets_by}

-- what becomes of each queue; "THR write to a full queue loses the byte"
abbrev pub received : Channel → Touch → Moved
received ch t = moved_by ch.rx (receive_change ch.settings t) (room_of ch.settings)

-- "the oldest is loaded if .. EFCR 2 is clear, and EFR 7 is clear or CTS is asserted", no Xoff "stops loading" and nothing is
-- loaded "before the queue"
abbrev pub loads_oldest : Channel → Bool
loads_oldest ch = loads ch.settings (cts_asserted ch.state.modem) && free_to_load ch.state.flow

-- ".. and the next slot with EFCR 2 clear loads it", the byte that waits
abbrev pub loads_waiting : Channel → Bool
loads_waiting ch = sends_waiting ch.state.flow ch.settings

abbrev pub sent_change : Channel → Touch → Change
sent_change ch t = transmit_change ch.settings (loads_oldest ch) t

abbrev pub sent : Channel → Touch → Moved
sent ch t = moved_by ch.tx (sent_change ch t) transmit_room

-- an event's act, by what becomes of the lines and the reply
unfoldable pub act_with : Channel → Touch → State → ℕ → Act
act_with ch t lines reply =
    record {
      setting = setting_by ch.settings t;
      state = lines;
      rx = received ch t;
      tx = sent ch t;
      reply = reply;
      resets = resets_by ch.settings t;
    }

-- an act that sets no register and leaves the queues as they are
unfoldable pub lines_act : Channel → State → ℕ → Act
lines_act ch lines reply =
    record { setting = None; state = lines; rx = stays_as ch.rx; tx = stays_as ch.tx; reply = reply; resets = false }

-- ---- 0 write
-- FCR: "a receive clear makes it 0", the quiet count; EFR: "Setting EFR 1:0 to 00 or 11 resumes", "EFR 3:2 set to 00 or 11, drops
-- what waits"
unfoldable pub write_act : Channel → ℕ → ℕ → Act
write_act ch address byte =
    act_with ch (touch.Write address byte)
    (with_flow
    (with_line ch.state (line_cleared ch.state.line (clears ch.settings (register_at ch.settings address) byte 1)))
    (flow_written ch.state.flow (register_at ch.settings address) byte))
    0

-- ---- 1 read
-- LSR: "overrun, cleared by this read"; MSR 3:0 "cleared by an MSR read"; IIR: "Reading it clears the THR flag if 02 was
-- shown, .."
abbrev pub lines_read : Channel → Register → State
lines_read ch read =
    with_flags (with_modem (with_line ch.state (line_read ch.state.line read)) (modem_read ch.state.modem read))
    (flags_cleared ch.state.flags (shown_at ch read))

abbrev pub reply_read : Channel → Register → ℕ
reply_read ch read = read_of ch read (shown_at ch read)

unfoldable pub read_act : Channel → ℕ → Act
read_act ch address =
    act_with ch (touch.Read address) (lines_read ch (register_at ch.settings address))
    (reply_read ch (register_at ch.settings address))

-- ---- 2 arrival
-- ".. kept with its mark if fewer than room are queued, else lost (1) and overrun is set"; Xoff "stops loading"
unfoldable pub arrival_act : Channel → ℕ → ℕ → Act
arrival_act ch byte mark =
    act_with ch (touch.Arrival byte mark)
    (with_flow
    (with_flags (with_line ch.state (line_arrived ch.state.line (received ch (touch.Arrival byte mark)).kept))
    (flags_arrived ch.state.flags (heard_of ch.settings byte mark).special))
    (flow_heard ch.state.flow ch.settings (heard_of ch.settings byte mark).gate))
    (fate_number (heard_of ch.settings byte mark).gate (received ch (touch.Arrival byte mark)).kept)

-- ---- 3 send slot
-- "Slot: a held character leaves ..; then the oldest is loaded if there is one" and loading is allowed; a byte that waits "before
-- the queue"
unfoldable pub slot_act : Channel → Act
slot_act ch =
    act_with ch touch.Slot
    (with_flow
    (with_shift ch.state
    (shift_loaded (loads_waiting ch || loads_oldest ch && not (eqb ch.tx.count 0))
    (pick (loads_waiting ch) ch.state.flow.byte (oldest_of ch.tx).byte)))
    (flow_sent ch.state.flow (loads_waiting ch)))
    (slot_reply ch.state.shift ch.settings)

-- ---- 4 pins
-- MSR 3:0 mark what changes; "CTS going off sets the CTS flag unless EFR 7 is set."
unfoldable pub pins_act : Channel → ℕ → Act
pins_act ch value =
    act_with ch (touch.Pins value)
    (with_flags (with_modem ch.state (pins_changed ch.state.modem value))
    (flags_pins ch.state.flags (cts_off ch.state.modem ch.settings value)))
    0

-- ---- 5 quiet character time
unfoldable pub quiet_act : Channel → Act
quiet_act ch = act_with ch touch.Quiet (with_line ch.state (line_quieter ch.state.line)) 0

-- ---- 8 RTS look: "1 if asserted, else 0", as it is when the event comes
unfoldable pub look_act : Channel → Act
look_act ch = act_with ch touch.RtsLook ch.state (one_if (rts_asserted ch))

-- ---- by kind
unfoldable pub act_of : Channel → Touch → Act
act_of ch (touch.Write address byte) = write_act ch address byte
act_of ch (touch.Read address) = read_act ch address
act_of ch (touch.Arrival byte mark) = arrival_act ch byte mark
act_of ch touch.Slot = slot_act ch
act_of ch (touch.Pins value) = pins_act ch value
act_of ch touch.Quiet = quiet_act ch
act_of ch touch.RtsLook = look_act ch
