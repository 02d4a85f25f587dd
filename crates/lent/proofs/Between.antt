-- For proofs alone: of reads of RHR one after the other only the first and the last settle anything that stays: one between them
-- comes to its character taken.
use Rattle.std.specs.Prelude.{ℕ, zero, suc, ◌<◌, ◌≤◌, ◌≡◌, refl, Bool, true, false, not, ◌&&◌, ◌∷◌}
use Rattle.std.proofs.Common.{arith, sym, ap, ◌∙◌}
use Rattle.bits.specs.Choice.{apart}
use Rattle.bits.specs.Conditions.{and_true}
use Rattle.queue.specs.declared.Queue.{Queue}
use Rattle.queue.specs.Queue.{stays_as, moved_by, takes_from, oldest_of, after_of}
use Rattle.registers.specs.Pairs.{pair_at}
use Rattle.receiver.specs.Line.{line_read}
use Rattle.lines.specs.Transmit.{is_busy}
use Rattle.lines.specs.Rts.{latch_after}
use Rattle.lines.specs.Modem.{modem_read}
use Rattle.flow.specs.Flow.{flow_settled}
use Rattle.interrupts.specs.declared.flags.Flags.{Flags}
use Rattle.interrupts.specs.declared.flags.Moment.{Moment}
use Rattle.interrupts.specs.Flags.{flags_cleared, flags_settled}
use Rattle.interrupts.specs.Laws.{flags_stay}
use Rattle.channel.specs.declared.channel.Channel.{Channel}
use Rattle.channel.specs.State.{with_line, with_modem, with_flags, with_latch, with_flow}
use Rattle.channel.specs.Channel.{received_at, free_at, shown_at, read_of}
use Rattle.channel.specs.Settle.{moment_of, moment_at, settled_of, after_step}
use Rattle.acts.specs.Touches.{setting_by, receive_change, transmit_change}
use Rattle.acts.specs.Acts.{act_with, read_act, act_of}
use Rattle.acts.specs.Step.{step_at, touched_by}
use Rattle.acts.specs.Settled.{Settled, touch_settles}
use Rattle.lent.specs.Drain.{read_rhr}
use Rattle.lent.specs.Reads.{channel_after, channel_replies, Open}
use Rattle.lent.proofs.Fewer.{latch_on, latch_passed_over, rts_on, flow_passed_over}

-- the channel with another receive queue
abbrev pub with_rx : Channel → Queue → Channel
with_rx ch rx = record { settings = ch.settings; state = ch.state; rx = rx; tx = ch.tx }

-- with its oldest character taken, and nothing settled
abbrev pub taken : Channel → Channel
taken ch = with_rx ch (after_of ch.rx (takes_from ch.rx))

-- as an event left it, but for characters that were taken since
pub record Calm (ch : Channel) : Type 0 where
  pub left : Queue
  pub fewer : ch.rx.count ≤ left.count
  pub settled : Settled (with_rx ch left)

pub calm_touched : (ch : Channel) → Calm (touched_by ch read_rhr)
calm_touched ch = record { left = (touched_by ch read_rhr).rx; fewer = omega arith; settled = touch_settles ch read_rhr }

taken_fewer : (ch : Channel) → (taken ch).rx.count ≤ ch.rx.count
unfolding after_of takes_from
taken_fewer ch = omega arith

pub calm_taken : (ch : Channel) → Calm ch → Calm (taken ch)
calm_taken ch calm = record { left = calm.left; fewer = omega (arith, taken_fewer ch, calm.fewer); settled = calm.settled }

-- ---- flags where RTS goes to asserted at most and the THR condition stays
flags_kept : (f : Flags) (before after : Moment) → (before.rts ≡ true → after.rts ≡ true) → before.thr ≡ after.thr
    → (f.thr ≡ true → after.thr ≡ true) → flags_settled f before after ≡ f
unfolding flags_settled
flags_kept f before after on same has = rw (unasserted before.rts after.rts on, same) (flags_stay f after has)
  where
    unasserted : (before after : Bool) → (before ≡ true → after ≡ true) → before && not after ≡ after && not after
    unasserted true true on = refl
    unasserted true false on = absurd (apart (on refl))
    unasserted false true on = refl
    unasserted false false on = refl

-- ---- a read of RHR at a calm channel: "an RHR read .. makes it 0", the quiet count, each latch is driven anew, and no flag changes
abbrev latch_read : Channel → Bool
latch_read ch = latch_after ch.settings (received_at (taken ch)) ch.state.latch

abbrev after_read : Channel → Channel
after_read ch =
    record {
      settings = ch.settings;
      state =
          record {
            line = record { overrun = ch.state.line.overrun; quiet = 0 };
            shift = ch.state.shift;
            modem = ch.state.modem;
            flags = ch.state.flags;
            latch = latch_read ch;
            flow = flow_settled ch.state.flow ch.settings (pair_at ch.settings 2) (received_at (taken ch));
          };
      rx = (taken ch).rx;
      tx = ch.tx;
    }

flags_read : (ch : Channel) → Calm ch
    → flags_settled ch.state.flags (moment_at ch) (moment_of ch.settings (latch_read ch) ch.state.shift (free_at ch)) ≡ ch.state.flags
unfolding moment_at moment_of
flags_read ch calm =
    let still_on : ch.state.latch ≡ true → latch_read ch ≡ true =
    latch_on ch.settings (received_at (with_rx ch calm.left)) (received_at (taken ch)) ch.state.latch calm.settled.latch_ruled
    (omega (arith, taken_fewer ch, calm.fewer)) in
    flags_kept ch.state.flags (moment_at ch) _ (rts_on ch.settings (is_busy ch.state.shift (free_at ch)) ch.state.latch (latch_read ch) still_on)
    refl calm.settled.thr_true

module _ (ch : Channel) (opened : Open ch) where
  pub read_gives : (step_at ch read_rhr).reply ≡ (oldest_of ch.rx).byte
  unfolding step_at settled_of act_of act_with read_act read_of
  read_gives = rw opened refl

  read_is : Calm ch → touched_by ch read_rhr ≡ after_read ch
  unfolding after_step step_at settled_of act_of act_with read_act setting_by receive_change transmit_change moved_by line_read modem_read shown_at flags_cleared with_line with_modem with_flags with_latch with_flow stays_as after_of takes_from
  read_is calm = rw (opened, and_true ch.state.line.overrun, flags_read ch calm) refl

-- ---- two reads come to the second of them with one character taken before
module _ (ch : Channel) (opened : Open ch) (calm : Calm ch) where
  after_twice : after_read (after_read ch) ≡ after_read (taken ch)
  after_twice =
      let made = received_at (with_rx ch calm.left) in
      let between = received_at (taken ch) in
      let now = received_at (taken (taken ch)) in
      let less : between.0 ≤ made.0 = omega (arith, taken_fewer ch, calm.fewer) in
      rw (
        latch_passed_over ch.settings made between ch.state.latch calm.settled.latch_ruled less now (taken_fewer (taken ch)),
        flow_passed_over ch.state.flow ch.settings (pair_at ch.settings 2) made between now less (taken_fewer (taken ch)) calm.settled.flow_ruled,
      )
      refl

  two_are_one : touched_by (touched_by ch read_rhr) read_rhr ≡ touched_by (taken ch) read_rhr
  two_are_one =
      let read : touched_by ch read_rhr ≡ after_read ch = read_is ch opened calm in
      ap (λ (after : Channel). touched_by after read_rhr) read
      ∙ read_is (after_read ch) opened (rw read at (calm_touched ch))
      ∙ after_twice
      ∙ sym (read_is (taken ch) opened (calm_taken ch calm))

  -- so where a read follows, the one before it is its character taken
  pub after_taken : (n : ℕ) → 0 < n → channel_after (touched_by ch read_rhr) n ≡ channel_after (taken ch) n
  unfolding channel_after
  after_taken zero some = absurd (omega arith)
  after_taken (suc n) some = ap (λ (after : Channel). channel_after after n) two_are_one

  replies_alike : (step_at (touched_by ch read_rhr) read_rhr).reply ≡ (step_at (taken ch) read_rhr).reply
  replies_alike =
      ap (λ (after : Channel). (step_at after read_rhr).reply) (read_is ch opened calm)
      ∙ read_gives (after_read ch) opened
      ∙ sym (read_gives (taken ch) opened)

  pub replies_taken : (n : ℕ) → 0 < n → channel_replies (touched_by ch read_rhr) n ≡ channel_replies (taken ch) n
  unfolding channel_replies
  replies_taken zero some = absurd (omega arith)
  replies_taken (suc n) some =
      ap (λ (reply : ℕ). reply ∷ channel_replies (touched_by (touched_by ch read_rhr) read_rhr) n) replies_alike
      ∙ ap (λ (after : Channel). (step_at (taken ch) read_rhr).reply ∷ channel_replies after n) two_are_one
