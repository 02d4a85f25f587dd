-- Laws: what a step comes to for the stored registers and the queues, and that acts, steps and a channel's record stay within
-- their bounds.
use Rattle.std.specs.Prelude.{ℕ, ◌<◌, ◌≤◌, ◌≡◌, refl, Bool, None}
use Rattle.std.proofs.Common.{arith}
use Rattle.std.proofs.Math.Path.{ap}
use Rattle.bits.specs.Choice.{pick, pick_by}
use Rattle.bits.specs.Laws.{flag_in}
use Rattle.queue.specs.Queue.{changed, oldest_of}
use Rattle.queue.specs.Laws.{oldest_byte_below, ChangeIn, moved_in}
use Rattle.event.specs.declared.events.Touch.{Touch}
use Rattle.event.specs.declared.events.Touch.TheVariants as touch
use Rattle.event.specs.Events.{TouchIn}
use Rattle.registers.specs.declared.register.Register.TheVariants as register
use Rattle.registers.specs.declared.settings.Settings.{Settings}
use Rattle.registers.specs.Windows.{same, register_at}
use Rattle.registers.specs.Writes.{with_any}
use Rattle.registers.specs.Bounds.{SettingIn, SettingsIn}
use Rattle.levels.specs.Queues.{room_of, clears}
use Rattle.registers.specs.Laws.{none_in, setting_in}
use Rattle.levels.specs.Laws.{room_in}
use Rattle.receiver.specs.declared.line.Line.{Line}
use Rattle.receiver.specs.Arrivals.{does_pass, heard_of}
use Rattle.receiver.specs.Laws.{quiet_arrived, quiet_read, quiet_cleared, quiet_quieter, heard_in_lem, arrived_fits, fate_in}
use Rattle.lines.specs.Transmit.{transmit_room}
use Rattle.lines.specs.Laws.{modem_read_lem, modem_changed_lem, shift_loaded_lem, slot_in}
use Rattle.flow.specs.Laws.{heard_byte_in, written_byte_in, sent_byte_in}
use Rattle.channel.specs.declared.channel.Channel.{Channel}
use Rattle.channel.specs.declared.state.State.{State}
use Rattle.channel.specs.State.{LinesIn, with_line}
use Rattle.channel.specs.Channel.{WellFormed, rts_asserted, shown_at}
use Rattle.channel.specs.Settle.{ActIn, StepIn, settled_of, after_step}
use Rattle.channel.specs.Laws.{with_line_in, with_shift_in, with_modem_in, with_flags_in, with_flow_in, settled_in, well_formed_stepped, read_fits}
use Rattle.acts.specs.Touches.{setting_by, settings_after, receive_change, sent_by, transmit_change, resets_by}
use Rattle.acts.specs.Acts.{received, loads_oldest, loads_waiting, sent_change, act_with, write_act, read_act, arrival_act, slot_act, pins_act, quiet_act, look_act, act_of}
use Rattle.acts.specs.Step.{step_at, touched_by}

-- ---- what every act has of the stored registers
act_shared : (ch : Channel) (t : Touch) → act_of ch t ≡ act_with ch t (act_of ch t).state (act_of ch t).reply
unfolding act_of act_with write_act read_act arrival_act slot_act pins_act quiet_act look_act
act_shared ch (touch.Write address byte) = refl
act_shared ch (touch.Read address) = refl
act_shared ch (touch.Arrival byte mark) = refl
act_shared ch touch.Slot = refl
act_shared ch (touch.Pins value) = refl
act_shared ch touch.Quiet = refl
act_shared ch touch.RtsLook = refl

-- ---- and the step
module _ (ch : Channel) (t : Touch) where
  pub step_settings : (step_at ch t).settings ≡ settings_after ch.settings t
  unfolding step_at settled_of settings_after act_with
  step_settings = ap (λ act. with_any ch.settings act.setting) (act_shared ch t)

  pub step_resets : (step_at ch t).resets ≡ resets_by ch.settings t
  unfolding step_at settled_of act_with
  step_resets = ap (λ act. act.resets) (act_shared ch t)

  pub step_rx : (step_at ch t).rx ≡ received ch t
  unfolding step_at settled_of act_with
  step_rx = ap (λ act. act.rx) (act_shared ch t)

  -- where no register is set, each holds what it held
  pub none_set : (step_at ch t).setting ≡ None → (step_at ch t).settings ≡ ch.settings
  unfolding step_at settled_of
  none_set none = rw none

  -- the channel after an event, part by part
  pub touched_settings : (touched_by ch t).settings ≡ settings_after ch.settings t
  unfolding after_step
  touched_settings = step_settings

  pub touched_rx : (touched_by ch t).rx ≡ changed ch.rx (receive_change ch.settings t) (room_of ch.settings)
  unfolding after_step
  touched_rx = rw step_rx

-- ---- an event in range: its act and its step are within their bounds, and the channel's record stays well formed
received_in : (s : Settings) (t : Touch) → TouchIn t → ChangeIn (receive_change s t)
unfolding receive_change
received_in s (touch.Write address byte) v = pick_by ChangeIn (clears s (register_at s address) byte 1) (λ _. tt) (λ _. tt)
received_in s (touch.Read address) v = pick_by ChangeIn (same (register_at s address) register.RhrThr) (λ _. tt) (λ _. tt)
received_in s (touch.Arrival byte mark) v =
    pick_by ChangeIn (does_pass (heard_of s byte mark).gate) (λ _. record { byte_in = arrived_fits s byte mark v.0; mark_in = v.1 }) (λ _. tt)
received_in s touch.Slot v = tt
received_in s (touch.Pins value) v = tt
received_in s touch.Quiet v = tt
received_in s touch.RtsLook v = tt

sent_in : (s : Settings) (loading : Bool) (t : Touch) → TouchIn t → ChangeIn (transmit_change s loading t)
unfolding transmit_change sent_by
sent_in s loading (touch.Write address byte) v =
    pick_by ChangeIn (same (register_at s address) register.RhrThr) (λ _. record { byte_in = v.1; mark_in = omega arith })
    (λ _. pick_by ChangeIn (clears s (register_at s address) byte 2) (λ _. tt) (λ _. tt))
sent_in s loading (touch.Read address) v = tt
sent_in s loading (touch.Arrival byte mark) v = tt
sent_in s loading touch.Slot v = pick_by ChangeIn loading (λ _. tt) (λ _. tt)
sent_in s loading (touch.Pins value) v = tt
sent_in s loading touch.Quiet v = tt
sent_in s loading touch.RtsLook v = tt

setting_by_in : (s : Settings) (t : Touch) → TouchIn t → SettingsIn s → SettingIn (setting_by s t)
unfolding setting_by
setting_by_in s (touch.Write address byte) v ok = setting_in s ok byte v.1 (register_at s address)
setting_by_in s (touch.Read address) v ok = none_in
setting_by_in s (touch.Arrival byte mark) v ok = heard_in_lem s ok byte mark
setting_by_in s touch.Slot v ok = none_in
setting_by_in s (touch.Pins value) v ok = none_in
setting_by_in s touch.Quiet v ok = none_in
setting_by_in s touch.RtsLook v ok = none_in

-- with the lines and the reply of its kind
module _ (ch : Channel) (ok : WellFormed ch) where
  act_with_in : (t : Touch) (lines : State) (reply : ℕ) → TouchIn t → LinesIn lines → reply ≤ 256 → ActIn (act_with ch t lines reply)
  unfolding act_with
  act_with_in t lines reply v l r =
      record {
        setting_in = setting_by_in ch.settings t v ok.settings_in;
        lines_in = l;
        rx_in = moved_in ch.rx (receive_change ch.settings t) (room_of ch.settings) ok.rx_in (room_in ch.settings) (received_in ch.settings t v);
        tx_in = moved_in ch.tx (sent_change ch t) transmit_room ok.tx_in (omega arith) (sent_in ch.settings (loads_oldest ch) t v);
        reply_in = r;
      }

  abbrev lined : (line : Line) → line.quiet ≤ 4 → LinesIn (with_line ch.state line)
  lined = with_line_in ch.state ok.lines_in

  loaded_fits : pick (loads_waiting ch) ch.state.flow.byte (oldest_of ch.tx).byte < 256
  loaded_fits =
      pick_by (λ (n : ℕ). n < 256) (loads_waiting ch) (λ _. ok.lines_in.flow_in)
      (λ _. oldest_byte_below 256 ch.tx (omega arith) ok.sent_bytes_in)

  pub act_in : (t : Touch) → TouchIn t → ActIn (act_of ch t)
  unfolding act_of write_act read_act arrival_act slot_act pins_act quiet_act look_act
  act_in (touch.Write address byte) v =
      let written = register_at ch.settings address in
      act_with_in (touch.Write address byte) _ 0 v
      (with_flow_in _ (lined _ (quiet_cleared ch.state.line (clears ch.settings written byte 1) ok.lines_in.quiet_in))
      _ (written_byte_in ch.state.flow ok.lines_in.flow_in written byte))
      (omega arith)
  act_in (touch.Read address) v =
      let read = register_at ch.settings address in
      act_with_in (touch.Read address) _ _ v
      (with_flags_in _
      (with_modem_in _ (lined _ (quiet_read ch.state.line read ok.lines_in.quiet_in)) _ (modem_read_lem ch.state.modem read ok.lines_in.modem_in))
      _)
      (omega (arith, read_fits ch read (shown_at ch read) ok))
  act_in (touch.Arrival byte mark) v =
      act_with_in (touch.Arrival byte mark) _ _ v
      (with_flow_in _ (with_flags_in _ (lined _ (quiet_arrived ch.state.line _)) _)
      _ (heard_byte_in ch.state.flow ok.lines_in.flow_in ch.settings (heard_of ch.settings byte mark).gate))
      (omega (arith, fate_in (heard_of ch.settings byte mark).gate (received ch (touch.Arrival byte mark)).kept))
  act_in touch.Slot v =
      act_with_in touch.Slot _ _ v
      (with_flow_in _ (with_shift_in ch.state ok.lines_in _ (shift_loaded_lem _ _ loaded_fits))
      _ (sent_byte_in ch.state.flow ok.lines_in.flow_in (loads_waiting ch)))
      (slot_in ch.state.shift ch.settings ok.lines_in.shift_in)
  act_in (touch.Pins value) v =
      act_with_in (touch.Pins value) _ 0 v
      (with_flags_in _ (with_modem_in ch.state ok.lines_in _ (modem_changed_lem ch.state.modem value v ok.lines_in.modem_in)) _) (omega arith)
  act_in touch.Quiet v =
      act_with_in touch.Quiet _ 0 v (lined _ (quiet_quieter ch.state.line ok.lines_in.quiet_in)) (omega arith)
  act_in touch.RtsLook v = act_with_in touch.RtsLook ch.state _ v ok.lines_in (omega (arith, flag_in (rts_asserted ch)))

  pub step_in : (t : Touch) → TouchIn t → StepIn (step_at ch t)
  unfolding step_at
  step_in t v = settled_in ch (act_of ch t) ok (act_in t v)

pub well_formed_touched : (ch : Channel) (t : Touch) → TouchIn t → WellFormed ch → WellFormed (touched_by ch t)
well_formed_touched ch t v ok = well_formed_stepped ch (step_at ch t) ok (step_in ch ok t v)
