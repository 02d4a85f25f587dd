-- Laws: settling twice is settling once. "After each event": each latch is what its rule makes of it and the THR flag stands only
-- where its condition holds, so that an act that does nothing leaves the whole record as it is.
use Rattle.std.specs.Prelude.{ℕ, ◌≡◌, refl, true}
use Rattle.bits.specs.Conditions.{and_true}
use Rattle.queue.specs.Queue.{stays_as, moved_by, after_of}
use Rattle.queue.specs.Laws.{stays_after}
use Rattle.event.specs.declared.events.Touch.{Touch}
use Rattle.event.specs.declared.events.Touch.TheVariants as touch
use Rattle.registers.specs.declared.register.Register.TheVariants as register
use Rattle.registers.specs.Windows.{register_at}
use Rattle.registers.specs.Writes.{setting_of}
use Rattle.registers.specs.Pairs.{pair_at}
use Rattle.levels.specs.Queues.{clears}
use Rattle.receiver.specs.Line.{line_read, line_cleared}
use Rattle.lines.specs.Transmit.{thr_condition}
use Rattle.lines.specs.Rts.{latch_after}
use Rattle.lines.specs.Modem.{modem_read}
use Rattle.lines.specs.Laws.{latch_once}
use Rattle.flow.specs.Flow.{flow_written, flow_settled}
use Rattle.flow.specs.Laws.{flow_once}
use Rattle.interrupts.specs.Flags.{flags_cleared, flags_settled}
use Rattle.interrupts.specs.Laws.{thr_has_condition, flags_stay}
use Rattle.channel.specs.declared.settle.Act.{Act}
use Rattle.channel.specs.declared.channel.Channel.{Channel}
use Rattle.channel.specs.State.{with_line, with_modem, with_flags, with_latch, with_flow}
use Rattle.channel.specs.Channel.{received_at, free_at, shown_at}
use Rattle.channel.specs.Settle.{moment_of, moment_at, settings_by, settled_of, after_step}
use Rattle.acts.specs.Touches.{setting_by, receive_change, sent_by, transmit_change}
use Rattle.acts.specs.Acts.{act_with, write_act, read_act, look_act, act_of}
use Rattle.acts.specs.Step.{step_at, touched_by}

-- a record that an event leaves behind: both latches as their rules make them, and a THR flag only with its condition
pub record Settled (ch : Channel) : Type 0 where
  pub latch_ruled : latch_after ch.settings (received_at ch) ch.state.latch ≡ ch.state.latch
  pub flow_ruled : flow_settled ch.state.flow ch.settings (pair_at ch.settings 2) (received_at ch) ≡ ch.state.flow
  pub thr_true : ch.state.flags.thr ≡ true → thr_condition ch.settings (free_at ch) ≡ true

-- an act that does nothing: it sets no register and leaves the lines and the queues as they are
pub record Idle (ch : Channel) (act : Act) : Type 0 where
  pub none_set : settings_by ch act ≡ ch.settings
  pub lines_left : act.state ≡ ch.state
  pub rx_left : act.rx ≡ stays_as ch.rx
  pub tx_left : act.tx ≡ stays_as ch.tx

-- ---- whatever the act, what it comes to is settled
pub act_settles : (ch : Channel) (act : Act) → Settled (after_step ch (settled_of ch act))
unfolding after_step settled_of after_of with_latch with_flags with_flow flags_settled moment_of
act_settles ch act =
    record {
      latch_ruled = latch_once (settings_by ch act) (record { 0 = act.rx.count }) act.state.latch;
      flow_ruled = flow_once act.state.flow (settings_by ch act) (pair_at (settings_by ch act) 2) (record { 0 = act.rx.count });
      thr_true = thr_has_condition act.state.flags.thr (moment_at ch).thr _;
    }

pub touch_settles : (ch : Channel) (t : Touch) → Settled (touched_by ch t)
unfolding step_at
touch_settles ch t = act_settles ch (act_of ch t)

-- ---- and an act that does nothing at a settled channel leaves it as it is
pub settled_stays : (ch : Channel) (act : Act) → Settled ch → Idle ch act → after_step ch (settled_of ch act) ≡ ch
unfolding after_step settled_of moment_at moment_of stays_as with_latch with_flags with_flow
settled_stays ch act settled idle =
    rw (
      idle.none_set,
      idle.lines_left,
      idle.rx_left,
      idle.tx_left,
      settled.latch_ruled,
      settled.flow_ruled,
      flags_stay ch.state.flags (moment_at ch) settled.thr_true,
      stays_after ch.rx,
      stays_after ch.tx,
    )

-- settling twice is settling once
pub settled_once : (ch : Channel) (act again : Act) → Idle (after_step ch (settled_of ch act)) again
    → after_step (after_step ch (settled_of ch act)) (settled_of (after_step ch (settled_of ch act)) again) ≡ after_step ch (settled_of ch act)
settled_once ch act again idle = settled_stays (after_step ch (settled_of ch act)) again (act_settles ch act) idle

-- ---- a look disturbs nothing
pub look_left : (ch : Channel) → Settled ch → touched_by ch touch.RtsLook ≡ ch
unfolding step_at act_of look_act act_with setting_by receive_change transmit_change moved_by
look_left ch settled =
    settled_stays ch (look_act ch) settled
    (record { none_set = refl; lines_left = refl; rx_left = refl; tx_left = refl })

-- ---- nor does a closed address: it "reads 0, writes nothing"
pub closed_read_left : (ch : Channel) (address : ℕ) → register_at ch.settings address ≡ register.Closed → Settled ch
    → touched_by ch (touch.Read address) ≡ ch
unfolding step_at act_of read_act act_with setting_by receive_change transmit_change moved_by line_read modem_read shown_at flags_cleared with_line with_modem with_flags
closed_read_left ch address closed settled =
    settled_stays ch (read_act ch address) settled
    (record {
      none_set = refl;
      lines_left = rw (closed, and_true ch.state.line.overrun);
      rx_left = rw closed;
      tx_left = refl;
    })

pub closed_write_left : (ch : Channel) (address byte : ℕ) → register_at ch.settings address ≡ register.Closed → Settled ch
    → touched_by ch (touch.Write address byte) ≡ ch
unfolding step_at act_of write_act act_with setting_by setting_of receive_change transmit_change sent_by clears moved_by line_cleared flow_written with_line with_flow
closed_write_left ch address byte closed settled =
    settled_stays ch (write_act ch address byte) settled
    (record {
      none_set = rw closed;
      lines_left = rw closed;
      rx_left = rw closed;
      tx_left = rw closed;
    })
