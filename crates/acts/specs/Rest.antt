-- Laws: a channel with EFR 3:0 clear is what document 01 alone says of it: it is at rest and stays so, and what Xon and Xoff have
-- changed gives what it gave without them: the gate, code 10, LSR 6 and the slot.
use Rattle.std.specs.Prelude.{◌≤◌, ◌≡◌, Bool, true, false, ◌&&◌}
use Rattle.std.proofs.Common.{arith, ◌∙◌}
use Rattle.std.proofs.Math.Path.{refl}
use Rattle.std.proofs.Math.Bool.{not}
use Rattle.bits.specs.Choice.{pick}
use Rattle.bits.specs.Conditions.{or_false, and_true}
use Rattle.bits.specs.Bits.{bit_at, part_at}
use Rattle.event.specs.declared.events.Touch.{Touch}
use Rattle.event.specs.declared.events.Touch.TheVariants as touch
use Rattle.registers.specs.declared.register.Register.TheVariants as register
use Rattle.registers.specs.declared.settings.Settings.{Settings}
use Rattle.registers.specs.Windows.{same, register_at}
use Rattle.registers.specs.Pairs.{chooses_pair}
use Rattle.levels.specs.Queues.{loads}
use Rattle.receiver.specs.declared.arrival.Gate.{Gate}
use Rattle.receiver.specs.declared.arrival.Gate.TheVariants as gate
use Rattle.receiver.specs.Arrivals.{heard_of}
use Rattle.receiver.specs.Line.{fate_number}
use Rattle.receiver.specs.Laws.{none_taken}
use Rattle.lines.specs.Transmit.{all_free}
use Rattle.lines.specs.Modem.{cts_asserted}
use Rattle.flow.specs.declared.flow.Flow.{Flow}
use Rattle.flow.specs.Flow.{stopped_by, flow_heard, efr_written, flow_written, sends_waiting, free_to_load, flow_sent, flow_settled}
use Rattle.interrupts.specs.declared.flags.Flags.{Flags}
use Rattle.interrupts.specs.Interrupts.{special_pending}
use Rattle.channel.specs.declared.channel.Channel.{Channel}
use Rattle.channel.specs.Channel.{free_at, status_of}
use Rattle.acts.specs.Acts.{loads_oldest, loads_waiting}
use Rattle.acts.specs.Step.{touched_by}
use Rattle.acts.specs.Turns.{flow_acted, flow_touched}

-- as a reset leaves it: not stopped, the second latch on, nothing waits
abbrev pub at_rest : Flow
at_rest = record { stopped = false; latch = true; waits = false; byte = 0 }

-- EFR 3:0 clear
abbrev pub NoneChosen : Settings → Type 0
NoneChosen s = part_at s.efr 0 4 ≡ 0

module _ (s : Settings) (none : NoneChosen s) where
  both_zero : (part_at s.efr 0 2 ≡ 0) × (part_at s.efr 2 2 ≡ 0)
  unfolding part_at
  both_zero = (omega (arith, none), omega (arith, none))

  pub none_chosen : (chooses_pair s.efr 0 ≡ false) × (chooses_pair s.efr 2 ≡ false)
  unfolding chooses_pair
  none_chosen = rw (both_zero.0, both_zero.1) (refl, refl)

  -- the gate is then as document 01 alone has it (`receiver/Laws.gate_before`), and no arrival stops the channel
  stops_not : (g : Gate) → fate_number g true ≤ 3 → stopped_by false s g ≡ false
  unfolding fate_number stopped_by
  stops_not gate.Passes h = refl
  stops_not gate.Off h = refl
  stops_not gate.Elsewhere h = refl
  stops_not gate.Xoff h = absurd (omega arith)
  stops_not gate.Xon h = refl

-- ---- at rest, code 10 goes by the special flag alone, LSR 6 by the queue and the shift register, and a slot by the queue
pub pending_before : (s : Settings) (flags : Flags) → special_pending s at_rest flags ≡ bit_at s.ier 5 && flags.special
unfolding special_pending
pending_before s flags = rw (or_false flags.special)

module _ (ch : Channel) (rests : ch.state.flow ≡ at_rest) where
  pub idle_before : (status_of ch).idle ≡ all_free (free_at ch) && not ch.state.shift.full
  unfolding status_of
  idle_before = rw rests (and_true (all_free (free_at ch) && not ch.state.shift.full))

  pub loads_before : loads_oldest ch ≡ loads ch.settings (cts_asserted ch.state.modem)
  unfolding free_to_load
  loads_before = rw rests (and_true (loads ch.settings (cts_asserted ch.state.modem)))

  pub none_waits : loads_waiting ch ≡ false
  unfolding sends_waiting
  none_waits = rw rests

-- ---- and it stays at rest
acted_rests : (ch : Channel) (t : Touch) → ch.state.flow ≡ at_rest → NoneChosen ch.settings → flow_acted ch t ≡ at_rest
unfolding flow_written efr_written flow_heard sends_waiting flow_sent
acted_rests ch (touch.Write address byte) rests none = rw rests (written (same (register_at ch.settings address) register.Efr) (chooses_pair byte 2))
  where
    written : (efr sends : Bool) → pick efr (record { stopped = false; latch = true; waits = false; byte = pick sends 0 0 }) at_rest ≡ at_rest
    written true true = refl
    written true false = refl
    written false sends = refl
acted_rests ch (touch.Read address) rests none = rests
acted_rests ch (touch.Arrival byte mark) rests none =
    let untaken = none_taken ch.settings (none_chosen ch.settings none).0 byte mark in
    rw (rests, stops_not ch.settings none (heard_of ch.settings byte mark).gate untaken)
acted_rests ch touch.Slot rests none = rw rests
acted_rests ch (touch.Pins value) rests none = rests
acted_rests ch touch.Quiet rests none = rests
acted_rests ch touch.RtsLook rests none = rests

pub touched_rests : (ch : Channel) (t : Touch) → ch.state.flow ≡ at_rest → NoneChosen ch.settings → NoneChosen (touched_by ch t).settings
    → (touched_by ch t).state.flow ≡ at_rest
unfolding flow_settled
touched_rests ch t rests none after = flow_touched ch t ∙ rw (none_chosen (touched_by ch t).settings after).1 (acted_rests ch t rests none)
