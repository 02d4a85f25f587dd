-- Laws: what holds of every step: a reset is the act only, the record stays well formed, the other channel is left alone, and
-- a refused event changes nothing.
use Rattle.std.specs.Prelude.{ℕ, ◌<◌, ◌≡◌, Bool, Ok, Err}
use Rattle.std.proofs.Common.{arith, ◌∙◌}
use Rattle.std.proofs.Math.Path.{refl, ap}
use Rattle.std.proofs.Math.Bool.{true, false}
use Rattle.bits.specs.Choice.{pick, pick_by, apart}
use Rattle.bits.specs.Conditions.{both_hold}
use Rattle.bits.specs.Bits.{bit_at}
use Rattle.queue.specs.Queue.{empty_queue, clears_all, stays_as, moved_by, after_of}
use Rattle.queue.specs.Laws.{well_formed_empty, well_formed_after, empty_below}
use Rattle.event.specs.declared.refusal.Refusal.{Refusal}
use Rattle.event.specs.declared.events.Event.{Event}
use Rattle.event.specs.declared.events.Event.TheVariants as event
use Rattle.event.specs.declared.events.Touch.{Touch}
use Rattle.event.specs.declared.events.Touch.TheVariants as touch
use Rattle.event.specs.Events.{TouchIn, InRange, numbers_of, event_of, judged_of, Made}
use Rattle.event.specs.Laws.{made_in_range}
use Rattle.registers.specs.declared.register.Register.TheVariants as register
use Rattle.registers.specs.declared.settings.Settings.{Settings}
use Rattle.registers.specs.Windows.{register_at}
use Rattle.registers.specs.Writes.{setting_of, if_set, with_setting, resets_device}
use Rattle.levels.specs.Queues.{clears}
use Rattle.registers.specs.Bounds.{SettingsIn}
use Rattle.registers.specs.Laws.{same_is, zero_held, byte_held}
use Rattle.channel.specs.declared.channel.Channel.{Channel}
use Rattle.channel.specs.Channel as channel
use Rattle.channel.specs.State.{LinesIn, with_line, with_flags, with_latch, with_flow}
use Rattle.acts.specs.Touches.{setting_by, receive_change, sent_by, transmit_change, resets_by}
use Rattle.acts.specs.Acts.{act_with, write_act, act_of}
use Rattle.channel.specs.Settle.{settled_of, after_step}
use Rattle.acts.specs.Step.{step_at, touched_by}
use Rattle.acts.specs.Laws.{step_resets, well_formed_touched}
use Rattle.device.specs.declared.side.Side.{Side}
use Rattle.device.specs.declared.side.Side.TheVariants as side
use Rattle.device.specs.declared.device.Device.{Device}
use Rattle.device.specs.declared.device.Stepped.{Stepped}
use Rattle.device.specs.Reset.{reset_lcr, new_byte, settings_reset, lines_reset, reset_of, blank_settings, blank_channel, reset_device, new_device}
use Rattle.device.specs.Device.{WellFormed, channel_at, with_channel, side_numbered, touched_at, given_for, named_step, step_of, answered_of}

-- ---- a reset through a channel is the act only: what the event touches there is what a reset makes anew
-- a write to IOControl
io_control_forgotten : (ch : Channel) (address byte : ℕ) → register_at ch.settings address ≡ register.IoControl
    → (reset_of (touched_by ch (touch.Write address byte)) ≡ reset_of ch) × ((step_at ch (touch.Write address byte)).reply ≡ 0)
unfolding reset_of settings_reset after_step step_at settled_of act_of write_act act_with setting_by receive_change transmit_change sent_by setting_of if_set with_setting clears moved_by stays_as clears_all after_of with_line with_flags with_latch with_flow
io_control_forgotten ch address byte e = rw e (refl, refl)

pub reset_forgets : (ch : Channel) (t : Touch) → resets_by ch.settings t ≡ true
    → (reset_of (touched_by ch t) ≡ reset_of ch) × ((step_at ch t).reply ≡ 0)
unfolding resets_by resets_device
reset_forgets ch (touch.Write address byte) h =
    io_control_forgotten ch address byte
    (same_is (register_at ch.settings address) register.IoControl (both_hold _ (bit_at byte 3) h).0)
reset_forgets ch (touch.Read address) h = absurd (apart h)
reset_forgets ch (touch.Arrival byte mark) h = absurd (apart h)
reset_forgets ch touch.Slot h = absurd (apart h)
reset_forgets ch (touch.Pins value) h = absurd (apart h)
reset_forgets ch touch.Quiet h = absurd (apart h)
reset_forgets ch touch.RtsLook h = absurd (apart h)

-- the channel's record is put in its place and then all is reset, if the event resets the device
pub reset_with : (d : Device) (at : Side) (ch : Channel) → reset_of ch ≡ reset_of (channel_at d at) → reset_device (with_channel d at ch) ≡ reset_device d
unfolding reset_device
reset_with d side.A ch e = rw e
reset_with d side.B ch e = rw e

module _ (d : Device) (at : Side) (t : Touch) where
  given_by : (resets : Bool) → resets_by (channel_at d at).settings t ≡ resets
      → given_for (with_channel d at (touched_by (channel_at d at) t)) resets (step_at (channel_at d at) t).reply
      ≡ pick resets (record { device = reset_device d; reply = 0 }) (touched_at d at t)
  unfolding given_for touched_at
  given_by true h =
      let forgotten = reset_forgets (channel_at d at) t h in
      rw (reset_with d at (touched_by (channel_at d at) t) forgotten.0, forgotten.1)
  given_by false h = refl

  pub named_in_turn : given_for (with_channel d at (touched_by (channel_at d at) t)) (step_at (channel_at d at) t).resets (step_at (channel_at d at) t).reply
      ≡ named_step d at t
  unfolding named_step
  named_in_turn =
      ap (λ (resets : Bool). given_for (with_channel d at (touched_by (channel_at d at) t)) resets (step_at (channel_at d at) t).reply) (step_resets (channel_at d at) t)
      ∙ given_by (resets_by (channel_at d at).settings t) refl

-- ---- a record stays well formed
pub well_formed_at : (d : Device) (at : Side) → WellFormed d → channel.WellFormed (channel_at d at)
well_formed_at d side.A ok = ok.a_in
well_formed_at d side.B ok = ok.b_in

well_formed_with : (d : Device) (at : Side) (ch : Channel) → WellFormed d → channel.WellFormed ch → WellFormed (with_channel d at ch)
well_formed_with d side.A ch ok h = record { a_in = h; b_in = ok.b_in }
well_formed_with d side.B ch ok h = record { a_in = ok.a_in; b_in = h }

reset_in : (s : Settings) → SettingsIn s → SettingsIn (settings_reset s)
unfolding settings_reset
reset_in s ok =
    record {
      lcr_in = byte_held register.Lcr reset_lcr (omega arith) refl refl refl;
      ier_in = zero_held register.Ier;
      fcr_in = zero_held register.IirFcr;
      mcr_in = zero_held register.Mcr;
      spr_in = ok.spr_in;
      efr_in = zero_held register.Efr;
      efcr_in = zero_held register.Efcr;
      tcr_in = zero_held register.Tcr;
      tlr_in = zero_held register.Tlr;
      dll_in = ok.dll_in;
      dlh_in = ok.dlh_in;
      xon1_in = ok.xon1_in;
      xon2_in = ok.xon2_in;
      xoff1_in = ok.xoff1_in;
      xoff2_in = ok.xoff2_in;
    }

blank_in : SettingsIn blank_settings
unfolding blank_settings
blank_in =
    record {
      lcr_in = zero_held register.Lcr;
      ier_in = zero_held register.Ier;
      fcr_in = zero_held register.IirFcr;
      mcr_in = zero_held register.Mcr;
      spr_in = zero_held register.Spr;
      efr_in = zero_held register.Efr;
      efcr_in = zero_held register.Efcr;
      tcr_in = zero_held register.Tcr;
      tlr_in = zero_held register.Tlr;
      dll_in = zero_held register.Dll;
      dlh_in = zero_held register.Dlh;
      xon1_in = zero_held register.Xon1;
      xon2_in = zero_held register.Xon2;
      xoff1_in = zero_held register.Xoff1;
      xoff2_in = zero_held register.Xoff2;
    }

lines_reset_in : (pins : ℕ) → pins < 16 → LinesIn (lines_reset pins)
unfolding lines_reset
lines_reset_in pins h =
    record { quiet_in = omega arith; shift_in = omega arith; modem_in = record { pins_in = h; changes_in = omega arith }; flow_in = omega arith }

well_formed_reset : (ch : Channel) → channel.WellFormed ch → channel.WellFormed (reset_of ch)
unfolding reset_of clears_all after_of
well_formed_reset ch ok =
    record {
      settings_in = reset_in ch.settings ok.settings_in;
      lines_in = lines_reset_in ch.state.modem.pins ok.lines_in.modem_in.pins_in;
      rx_in = well_formed_after ch.rx (clears_all ch.rx) ok.rx_in ok.rx_in.start_in (omega arith);
      bytes_in = ok.bytes_in;
      marks_in = ok.marks_in;
      tx_in = well_formed_after ch.tx (clears_all ch.tx) ok.tx_in ok.tx_in.start_in (omega arith);
      sent_bytes_in = ok.sent_bytes_in;
      sent_marks_in = ok.sent_marks_in;
    }

well_formed_blank : channel.WellFormed blank_channel
unfolding blank_channel empty_queue
well_formed_blank =
    record {
      settings_in = blank_in;
      lines_in = lines_reset_in new_byte (omega arith);
      rx_in = well_formed_empty;
      bytes_in = empty_below 256 (omega arith);
      marks_in = empty_below 8 (omega arith);
      tx_in = well_formed_empty;
      sent_bytes_in = empty_below 256 (omega arith);
      sent_marks_in = empty_below 8 (omega arith);
    }

pub well_formed_reset_device : (d : Device) → WellFormed d → WellFormed (reset_device d)
unfolding reset_device
well_formed_reset_device d ok = record { a_in = well_formed_reset d.a ok.a_in; b_in = well_formed_reset d.b ok.b_in }

pub well_formed_new : WellFormed new_device
unfolding new_device
well_formed_new =
    well_formed_reset_device (record { a = blank_channel; b = blank_channel }) (record { a_in = well_formed_blank; b_in = well_formed_blank })

well_formed_named : (d : Device) (at : Side) (t : Touch) → TouchIn t → WellFormed d → WellFormed (named_step d at t).device
unfolding named_step touched_at
well_formed_named d at t v ok =
    pick_by (λ (done : Stepped). WellFormed done.device) (resets_by (channel_at d at).settings t)
    (λ _. well_formed_reset_device d ok)
    (λ _. well_formed_with d at (touched_by (channel_at d at) t) ok (well_formed_touched (channel_at d at) t v (well_formed_at d at ok)))

pub well_formed_step : (d : Device) (e : Event) → InRange e → WellFormed d → WellFormed (step_of d e).device
unfolding step_of
well_formed_step d (event.At channel t) range ok = well_formed_named d (side_numbered channel) t range.1 ok
well_formed_step d event.Reset range ok = well_formed_reset_device d ok
well_formed_step d event.IrqLook range ok = ok

-- what numbers or an event come to: in range, or refused
abbrev pub MadeIn : Made → Type 0
MadeIn (Ok e) = InRange e
MadeIn (Err r) = Unit {0}

pub made_in : (kind x y z : ℕ) → MadeIn (event_of kind x y z)
made_in kind x y z = go (event_of kind x y z) refl
  where
    go : (m : Made) → event_of kind x y z ≡ m → MadeIn m
    go (Ok e) h = made_in_range kind x y z h
    go (Err r) h = tt

pub judged_in : (e : Event) → MadeIn (judged_of e)
unfolding judged_of
judged_in e = made_in (numbers_of e).kind (numbers_of e).x (numbers_of e).y (numbers_of e).z

pub well_formed_answered : (d : Device) (m : Made) → MadeIn m → WellFormed d → WellFormed (answered_of d m).device
unfolding answered_of
well_formed_answered d (Ok e) range ok = well_formed_step d e range ok
well_formed_answered d (Err r) range ok = ok

-- ---- an event of one channel leaves the other channel's record exactly as it was, save a reset
abbrev pub other_side : Side → Side
other_side side.A = side.B
other_side side.B = side.A

pub other_kept : (d : Device) (at : Side) (ch : Channel) → channel_at (with_channel d at ch) (other_side at) ≡ channel_at d (other_side at)
other_kept d side.A ch = refl
other_kept d side.B ch = refl

-- a channel put in its place, and put there again
pub own_with : (d : Device) (at : Side) (ch : Channel) → channel_at (with_channel d at ch) at ≡ ch
own_with d side.A ch = refl
own_with d side.B ch = refl

pub again_with : (d : Device) (at : Side) (ch other : Channel) → with_channel (with_channel d at ch) at other ≡ with_channel d at other
again_with d side.A ch other = refl
again_with d side.B ch other = refl

pub same_with : (d : Device) (at : Side) → with_channel d at (channel_at d at) ≡ d
same_with d side.A = refl
same_with d side.B = refl

pub other_channel_alone : (d : Device) (at : Side) (t : Touch) → resets_by (channel_at d at).settings t ≡ false
    → channel_at (named_step d at t).device (other_side at) ≡ channel_at d (other_side at)
unfolding named_step touched_at
other_channel_alone d at t kept = rw kept (other_kept d at (touched_by (channel_at d at) t))

-- ---- a refused event leaves the device unchanged, and is answered by its refusal
pub refused_unchanged : (d : Device) (m : Made) (r : Refusal) → m ≡ Err r → answered_of d m ≡ record { device = d; answer = Err r }
unfolding answered_of
refused_unchanged d m r h = rw h
