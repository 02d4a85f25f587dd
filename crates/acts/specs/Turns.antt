-- Laws: what an event makes of the stop, the second latch and the byte that waits: a byte is put to wait exactly where the second
-- latch turns, and a channel that sends nothing has it on.
use Rattle.std.specs.Prelude.{ℕ, ◌≡◌, refl, Bool, true, not, ◌&&◌, ◌||◌}
use Rattle.std.proofs.Common.{sym, ap, ◌∙◌}
use Rattle.std.proofs.Math.Bool.{false}
use Rattle.bits.specs.Choice.{pick, pick_by, apart}
use Rattle.bits.specs.Conditions.{or_true, or_false, both_hold}
use Rattle.bits.specs.Bits.{differs}
use Rattle.queue.specs.Queue.{after_of}
use Rattle.event.specs.declared.events.Touch.{Touch}
use Rattle.event.specs.declared.events.Touch.TheVariants as touch
use Rattle.registers.specs.declared.pair.Pair.{Pair}
use Rattle.registers.specs.declared.register.Register.{Register}
use Rattle.registers.specs.declared.register.Register.TheVariants as register
use Rattle.registers.specs.declared.settings.Settings.{Settings}
use Rattle.registers.specs.Windows.{same, register_at}
use Rattle.registers.specs.Writes.{taken_by, setting_of, if_set, with_setting, with_any}
use Rattle.registers.specs.Pairs.{chooses_pair, pair_at}
use Rattle.registers.specs.Laws.{same_is, efr_unset}
use Rattle.receiver.specs.Arrivals.{heard_of}
use Rattle.receiver.specs.Laws.{heard_keeps_efr}
use Rattle.lines.specs.Rts.{latch_driven}
use Rattle.flow.specs.declared.flow.Flow.{Flow}
use Rattle.flow.specs.Laws.{turned_puts, unturned_stays, turned_latch}
use Rattle.flow.specs.Flow.{flow_heard, efr_written, flow_written, flow_sent, flow_turned, flow_settled}
use Rattle.channel.specs.declared.channel.Channel.{Channel}
use Rattle.channel.specs.State.{with_line, with_shift, with_modem, with_flags, with_flow}
use Rattle.channel.specs.Channel.{received_at}
use Rattle.channel.specs.Settle.{settings_by, settled_of, after_step}
use Rattle.acts.specs.Touches.{setting_by, settings_after}
use Rattle.acts.specs.Acts.{loads_waiting, act_with, write_act, read_act, arrival_act, slot_act, pins_act, quiet_act, look_act, act_of}
use Rattle.acts.specs.Step.{step_at, touched_by}
use Rattle.acts.specs.Laws.{touched_settings}

-- ---- the act, and then what settles
abbrev pub flow_acted : Channel → Touch → Flow
flow_acted ch (touch.Write address byte) = flow_written ch.state.flow (register_at ch.settings address) byte
flow_acted ch (touch.Read address) = ch.state.flow
flow_acted ch (touch.Arrival byte mark) = flow_heard ch.state.flow ch.settings (heard_of ch.settings byte mark).gate
flow_acted ch touch.Slot = flow_sent ch.state.flow (loads_waiting ch)
flow_acted ch (touch.Pins value) = ch.state.flow
flow_acted ch touch.Quiet = ch.state.flow
flow_acted ch touch.RtsLook = ch.state.flow

acted : (ch : Channel) (t : Touch) → (act_of ch t).state.flow ≡ flow_acted ch t
unfolding act_of write_act read_act arrival_act slot_act pins_act quiet_act look_act act_with with_line with_shift with_modem with_flags with_flow
acted ch (touch.Write address byte) = refl
acted ch (touch.Read address) = refl
acted ch (touch.Arrival byte mark) = refl
acted ch touch.Slot = refl
acted ch (touch.Pins value) = refl
acted ch touch.Quiet = refl
acted ch touch.RtsLook = refl

pub flow_touched : (ch : Channel) (t : Touch)
    → (touched_by ch t).state.flow
    ≡ flow_settled (flow_acted ch t) (touched_by ch t).settings (pair_at (touched_by ch t).settings 2) (received_at (touched_by ch t))
unfolding after_step step_at settled_of with_flow after_of
flow_touched ch t =
    ap (λ (f : Flow). flow_settled f (settings_by ch (act_of ch t)) (pair_at (settings_by ch (act_of ch t)) 2) (record { 0 = (act_of ch t).rx.count })) (acted ch t)

-- ---- EFR after an event: a write alone sets it
abbrev efr_by : Settings → Touch → ℕ
efr_by s (touch.Write address byte) = pick (same (register_at s address) register.Efr) byte s.efr
efr_by s (touch.Read address) = s.efr
efr_by s (touch.Arrival byte mark) = s.efr
efr_by s touch.Slot = s.efr
efr_by s (touch.Pins value) = s.efr
efr_by s touch.Quiet = s.efr
efr_by s touch.RtsLook = s.efr

efr_set : (s : Settings) (written : Register) (byte : ℕ)
    → (with_any s (setting_of s written byte)).efr ≡ pick (same written register.Efr) byte s.efr
unfolding with_setting if_set setting_of taken_by
efr_set s written byte = go (same written register.Efr) refl
  where
    go : (efr : Bool) → same written register.Efr ≡ efr → (with_any s (setting_of s written byte)).efr ≡ pick efr byte s.efr
    go true h = rw (same_is written register.Efr h)
    go false h = pick_by (λ setting. (with_any s setting).efr ≡ s.efr) (same written register.RhrThr || same written register.Closed) (λ _. refl) (λ _. rw h)

efr_after : (s : Settings) (t : Touch) → (settings_after s t).efr ≡ efr_by s t
unfolding settings_after setting_by
efr_after s (touch.Write address byte) = efr_set s (register_at s address) byte
efr_after s (touch.Read address) = refl
efr_after s (touch.Arrival byte mark) = efr_unset s (heard_of s byte mark).setting (heard_keeps_efr s byte mark)
efr_after s touch.Slot = refl
efr_after s (touch.Pins value) = refl
efr_after s touch.Quiet = refl
efr_after s touch.RtsLook = refl

efr_touched : (ch : Channel) (t : Touch) → (touched_by ch t).settings.efr ≡ efr_by ch.settings t
efr_touched ch t = ap (λ (s : Settings). s.efr) (touched_settings ch t) ∙ efr_after ch.settings t

-- ---- the second latch after the act: on where nothing is sent from then on, else as it was
or_unless : (latch sends : Bool) → latch || not sends ≡ pick sends latch true
or_unless latch true = or_false latch
or_unless latch false = or_true latch

acted_latch : (ch : Channel) (t : Touch) (sends : Bool) → chooses_pair (efr_by ch.settings t) 2 ≡ sends
    → (chooses_pair ch.settings.efr 2 ≡ false → ch.state.flow.latch ≡ true)
    → (flow_acted ch t).latch ≡ pick sends ch.state.flow.latch true
unfolding flow_written efr_written flow_heard flow_sent
acted_latch ch t sends is rests = go t is
  where
    -- an event that leaves EFR and the latch as they were
    stays : (sends : Bool) → chooses_pair ch.settings.efr 2 ≡ sends → ch.state.flow.latch ≡ pick sends ch.state.flow.latch true
    stays true h = refl
    stays false h = rests h

    written : (efr : Bool) (byte : ℕ) → chooses_pair (pick efr byte ch.settings.efr) 2 ≡ sends
        → (pick efr (efr_written ch.state.flow byte) ch.state.flow).latch ≡ pick sends ch.state.flow.latch true
    written true byte h = rw h (or_unless ch.state.flow.latch sends)
    written false byte h = stays sends h

    go : (t : Touch) → chooses_pair (efr_by ch.settings t) 2 ≡ sends → (flow_acted ch t).latch ≡ pick sends ch.state.flow.latch true
    go (touch.Write address byte) h = written (same (register_at ch.settings address) register.Efr) byte h
    go (touch.Read address) h = stays sends h
    go (touch.Arrival byte mark) h = stays sends h
    go touch.Slot h = stays sends h
    go (touch.Pins value) h = stays sends h
    go touch.Quiet h = stays sends h
    go touch.RtsLook h = stays sends h

-- ---- and a byte that waits after it waited before it
acted_waits : (ch : Channel) (t : Touch) → (flow_acted ch t).waits ≡ true
    → (ch.state.flow.waits ≡ true) × ((flow_acted ch t).byte ≡ ch.state.flow.byte)
unfolding flow_written efr_written flow_heard flow_sent
acted_waits ch (touch.Write address byte) = written (same (register_at ch.settings address) register.Efr)
  where
    written : (efr : Bool) → (pick efr (efr_written ch.state.flow byte) ch.state.flow).waits ≡ true
        → (ch.state.flow.waits ≡ true) × ((pick efr (efr_written ch.state.flow byte) ch.state.flow).byte ≡ ch.state.flow.byte)
    written true h = let waits = both_hold ch.state.flow.waits (chooses_pair byte 2) h in (waits.0, rw waits.1)
    written false h = (h, refl)
acted_waits ch (touch.Read address) = λ h. (h, refl)
acted_waits ch (touch.Arrival byte mark) = λ h. (h, refl)
acted_waits ch touch.Slot = slot (loads_waiting ch)
  where
    slot : (sends : Bool) → ch.state.flow.waits && not sends ≡ true
        → (ch.state.flow.waits ≡ true) × (pick sends 0 ch.state.flow.byte ≡ ch.state.flow.byte)
    slot true h = absurd (apart (both_hold ch.state.flow.waits false h).1)
    slot false h = ((both_hold ch.state.flow.waits true h).0, refl)
acted_waits ch (touch.Pins value) = λ h. (h, refl)
acted_waits ch touch.Quiet = λ h. (h, refl)
acted_waits ch touch.RtsLook = λ h. (h, refl)

-- ---- the event as a whole
-- what is put to wait: where the second latch has turned, the byte stored then in the pair that EFR 3:2 choose, Xoff for off or Xon
-- for on; otherwise none: what waits has waited before
pub record Put (before after : Channel) : Type 0 where
  pub puts : differs before.state.flow.latch after.state.flow.latch ≡ true
      → (after.state.flow.waits ≡ true)
      × (after.state.flow.byte ≡ pick after.state.flow.latch (pair_at after.settings 2).xon (pair_at after.settings 2).xoff)
  pub puts_none : differs before.state.flow.latch after.state.flow.latch ≡ false → after.state.flow.waits ≡ true
      → (before.state.flow.waits ≡ true) × (after.state.flow.byte ≡ before.state.flow.byte)

module _ (ch : Channel) (t : Touch) (rests : chooses_pair ch.settings.efr 2 ≡ false → ch.state.flow.latch ≡ true) where
  chosen_after : (sends : Bool) → chooses_pair (touched_by ch t).settings.efr 2 ≡ sends → chooses_pair (efr_by ch.settings t) 2 ≡ sends
  chosen_after sends h = ap (λ (efr : ℕ). chooses_pair efr 2) (sym (efr_touched ch t)) ∙ h

  -- a channel that sends nothing has the second latch on
  pub rests_on : chooses_pair (touched_by ch t).settings.efr 2 ≡ false → (touched_by ch t).state.flow.latch ≡ true
  unfolding flow_settled
  rests_on off = rw (flow_touched ch t, off) (acted_latch ch t false (chosen_after false off) rests)

  -- the second latch turns where it is driven to another place than it had before the event
  abbrev driven : Bool
  driven = latch_driven (touched_by ch t).settings (received_at (touched_by ch t)) (flow_acted ch t).latch

  module _ (on : chooses_pair (touched_by ch t).settings.efr 2 ≡ true) where
    turned : (touched_by ch t).state.flow ≡ flow_turned (flow_acted ch t) (pair_at (touched_by ch t).settings 2) driven
    unfolding flow_settled
    turned = flow_touched ch t ∙ rw on

    latch_now : (touched_by ch t).state.flow.latch ≡ driven
    latch_now = ap (λ (f : Flow). f.latch) turned ∙ turned_latch (flow_acted ch t) (pair_at (touched_by ch t).settings 2) driven

    latch_then : (flow_acted ch t).latch ≡ ch.state.flow.latch
    latch_then = acted_latch ch t true (chosen_after true on) rests

    turns : differs (flow_acted ch t).latch driven ≡ differs ch.state.flow.latch (touched_by ch t).state.flow.latch
    turns = ap (λ (latch : Bool). differs latch driven) latch_then ∙ ap (differs ch.state.flow.latch) (sym latch_now)

    abbrev pair : Pair
    pair = pair_at (touched_by ch t).settings 2

    pub put_exactly : Put ch (touched_by ch t)
    put_exactly =
        record {
          puts = λ h.
              let put = turned_puts (flow_acted ch t) pair driven (turns ∙ h) in (
                ap (λ (f : Flow). f.waits) turned ∙ put.0,
                ap (λ (f : Flow). f.byte) turned ∙ put.1 ∙ ap (λ (latch : Bool). pick latch pair.xon pair.xoff) (sym latch_now),
              );
          puts_none = λ h waits.
              let stays = turned ∙ unturned_stays (flow_acted ch t) pair driven (turns ∙ h) in
              let waited = acted_waits ch t (ap (λ (f : Flow). f.waits) (sym stays) ∙ waits) in
              (waited.0, ap (λ (f : Flow). f.byte) stays ∙ waited.1);
        }
