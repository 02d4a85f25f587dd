-- Laws: Xon and Xoff at a channel: what one that is taken leaves alone, what a stop holds back, and what it does not.
use Rattle.std.specs.Prelude.{ℕ, ◌≡◌, Bool, not, ◌&&◌, ◌||◌, eqb}
use Rattle.std.proofs.Common.{arith, ◌∙◌}
use Rattle.std.proofs.Math.Path.{refl}
use Rattle.std.proofs.Math.Bool.{true, false}
use Rattle.bits.specs.Choice.{pick}
use Rattle.bits.specs.Conditions.{or_false, and_not}
use Rattle.bits.specs.Bits.{bit_at, cut_to}
use Rattle.queue.specs.Change.{Stay}
use Rattle.queue.specs.Queue.{stays_as, moved_by, oldest_of}
use Rattle.queue.specs.Laws.{stays_after}
use Rattle.event.specs.declared.events.Touch.TheVariants as touch
use Rattle.levels.specs.Queues.{transmits, loads}
use Rattle.receiver.specs.declared.arrival.Gate.{Gate}
use Rattle.receiver.specs.declared.arrival.Gate.TheVariants as gate
use Rattle.receiver.specs.Arrivals.{does_pass, heard_of}
use Rattle.receiver.specs.Line.{line_arrived, fate_number}
use Rattle.lines.specs.Transmit.{shift_loaded, slot_reply}
use Rattle.lines.specs.Modem.{cts_asserted}
use Rattle.flow.specs.Flow.{sends_waiting, free_to_load}
use Rattle.channel.specs.declared.channel.Channel.{Channel}
use Rattle.channel.specs.State.{with_line, with_shift, with_flags, with_latch, with_flow}
use Rattle.channel.specs.Channel.{received_at, status_of}
use Rattle.channel.specs.Settle.{settled_of, after_step}
use Rattle.acts.specs.Touches.{setting_by, settings_after, receive_change, transmit_change}
use Rattle.acts.specs.Acts.{loads_oldest, loads_waiting, act_with, arrival_act, slot_act, act_of}
use Rattle.acts.specs.Step.{step_at, touched_by}
use Rattle.acts.specs.Laws.{touched_settings, touched_rx}

-- ---- an arrival that is taken as Xoff or Xon: "Neither is queued"
taken_passes_not : (g : Gate) (kept : Bool) → fate_number g kept ≡ 4 → does_pass g ≡ false
unfolding fate_number does_pass
taken_passes_not gate.Passes true h = absurd (omega arith)
taken_passes_not gate.Passes false h = absurd (omega arith)
taken_passes_not gate.Off kept h = refl
taken_passes_not gate.Elsewhere kept h = refl
taken_passes_not gate.Xoff kept h = refl
taken_passes_not gate.Xon kept h = refl

module _ (ch : Channel) (byte mark : ℕ) (taken : (step_at ch (touch.Arrival byte mark)).reply ≡ 4) where
  abbrev after : Channel
  after = touched_by ch (touch.Arrival byte mark)

  none_offered : receive_change ch.settings (touch.Arrival byte mark) ≡ Stay
  unfolding receive_change step_at settled_of act_of arrival_act act_with
  none_offered = rw (taken_passes_not (heard_of ch.settings byte mark).gate _ taken)

  -- it leaves the receive queue as it was,
  pub taken_queue : after.rx ≡ ch.rx
  unfolding moved_by
  taken_queue = rw (touched_rx ch (touch.Arrival byte mark), none_offered) (stays_after ch.rx)

  -- the level,
  pub taken_level : received_at after ≡ received_at ch
  taken_level = rw taken_queue

  -- and what LSR shows of the receive queue, and sets no overrun
  pub taken_shown : ((status_of after).ready ≡ (status_of ch).ready) × ((status_of after).mark ≡ (status_of ch).mark) × ((status_of after).error ≡ (status_of ch).error)
  unfolding status_of
  taken_shown = rw taken_queue (refl, refl, refl)

  pub taken_overrun : (status_of after).overrun ≡ (status_of ch).overrun
  unfolding status_of after_step step_at settled_of act_of arrival_act act_with with_flow with_latch with_flags with_line line_arrived moved_by stays_as
  taken_overrun = rw none_offered (or_false ch.state.line.overrun)

-- ---- a slot: what is loaded
slot_queue : (ch : Channel) → loads_oldest ch ≡ false → (touched_by ch touch.Slot).tx ≡ ch.tx
unfolding after_step step_at settled_of act_of slot_act act_with transmit_change moved_by
slot_queue ch none = rw none (stays_after ch.tx)

slot_shift : (ch : Channel)
    → (touched_by ch touch.Slot).state.shift
    ≡ shift_loaded (loads_waiting ch || loads_oldest ch && not (eqb ch.tx.count 0)) (pick (loads_waiting ch) ch.state.flow.byte (oldest_of ch.tx).byte)
unfolding after_step step_at settled_of act_of slot_act act_with with_flow with_latch with_flags with_shift
slot_shift ch = refl

slot_reply_lem : (ch : Channel) → (step_at ch touch.Slot).reply ≡ slot_reply ch.state.shift ch.settings
unfolding step_at settled_of act_of slot_act act_with
slot_reply_lem ch = refl

slot_settings : (ch : Channel) → (touched_by ch touch.Slot).settings ≡ ch.settings
unfolding settings_after setting_by
slot_settings ch = touched_settings ch touch.Slot

-- where the flow is not free, nothing is loaded from the queue
not_free : (ch : Channel) → free_to_load ch.state.flow ≡ false → loads_oldest ch ≡ false
not_free ch h = and_not (loads ch.settings (cts_asserted ch.state.modem)) (free_to_load ch.state.flow) h

-- while stopped, no slot loads from the queue
module _ (ch : Channel) (stopped : ch.state.flow.stopped ≡ true) where
  stopped_not : loads_oldest ch ≡ false
  unfolding free_to_load
  stopped_not = not_free ch (rw stopped)

  pub stopped_queue : (touched_by ch touch.Slot).tx ≡ ch.tx
  stopped_queue = slot_queue ch stopped_not

  pub stopped_shift : (touched_by ch touch.Slot).state.shift ≡ shift_loaded (loads_waiting ch) ch.state.flow.byte
  unfolding shift_loaded
  stopped_shift = slot_shift ch ∙ rw stopped_not (go (loads_waiting ch))
    where
      go : (waiting : Bool) → shift_loaded (waiting || false) (pick waiting ch.state.flow.byte (oldest_of ch.tx).byte) ≡ shift_loaded waiting ch.state.flow.byte
      go true = refl
      go false = refl

-- ".. and the next slot with EFCR 2 clear loads it before the queue, despite a stop or CTS": whatever these are
module _ (ch : Channel) (waits : ch.state.flow.waits ≡ true) (on : bit_at ch.settings.efcr 2 ≡ false) where
  waiting_loads : loads_waiting ch ≡ true
  unfolding sends_waiting transmits
  waiting_loads = rw (waits, on)

  waiting_first : loads_oldest ch ≡ false
  unfolding free_to_load
  waiting_first = not_free ch (and_not (not ch.state.flow.stopped) (not ch.state.flow.waits) (rw waits))

  pub waiting_queue : (touched_by ch touch.Slot).tx ≡ ch.tx
  waiting_queue = slot_queue ch waiting_first

  pub waiting_loaded : (touched_by ch touch.Slot).state.shift ≡ record { full = true; byte = ch.state.flow.byte }
  unfolding shift_loaded
  waiting_loaded = slot_shift ch ∙ rw waiting_loads

  -- and the slot behind it sends it, cut to the word length
  pub waiting_leaves : (step_at (touched_by ch touch.Slot) touch.Slot).reply ≡ cut_to ch.state.flow.byte ch.settings.lcr
  unfolding slot_reply
  waiting_leaves = slot_reply_lem (touched_by ch touch.Slot) ∙ rw (waiting_loaded, slot_settings ch)
