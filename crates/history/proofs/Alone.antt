-- Laws: nothing done on the other channel alters a channel, save a device reset: a history and what is left of it for the channel
-- come to the same there.
use Rattle.std.specs.Prelude.{ℕ, ◌≡◌, Bool, List, [], ◌∷◌, ◌++◌, map, Ok, Err}
use Rattle.std.proofs.Math.Path.{refl, sym, ap}
use Rattle.std.proofs.Common.{◌∙◌}
use Rattle.std.proofs.Math.Bool.{true, false}
use Rattle.bits.specs.Choice.{pick}
use Rattle.event.specs.declared.events.Event.TheVariants as event
use Rattle.event.specs.Events.{Made}
use Rattle.event.specs.declared.events.Touch.{Touch}
use Rattle.channel.specs.declared.channel.Channel.{Channel}
use Rattle.acts.specs.Touches.{resets_by}
use Rattle.acts.specs.Step.{step_at}
use Rattle.device.specs.declared.side.Side.{Side}
use Rattle.device.specs.declared.device.Device.{Device}
use Rattle.device.specs.Reset.{reset_device, new_device}
use Rattle.device.specs.Device.{channel_at, side_numbered, touched_at, named_step, step_of, answered_of, answer_number}
use Rattle.history.specs.Judge.{Ledger, fresh_ledger, tally_after, Effect, Own, Other, Reset, Nothing, is_side, effect_on, ledger_after, judged_by, judged_from}
use Rattle.history.specs.Demand3.{ran_from, answers_from, Log, log_of, OfNewDevice, left_of, remainder_from, remainder, of_own, own_of, Alone}
use Rattle.history.specs.Seen.{number_for, channel_met, Same}
use Rattle.history.proofs.Seen.{own_side, seen}
use Rattle.history.proofs.Agreement.{same_answered, agrees_new}
use Rattle.history.proofs.Proved.{by_log}

-- ---- the number that an event of the channel is answered with goes by the channel alone
abbrev reply_by : Channel → Touch → ℕ
reply_by ch t = pick (resets_by ch.settings t) 0 (step_at ch t).reply

named_reply : (d : Device) (w : Side) (t : Touch) → (named_step d w t).reply ≡ reply_by (channel_at d w) t
unfolding named_step touched_at
named_reply d w t = go (resets_by (channel_at d w).settings t)
  where
    go : (resets : Bool) → (pick resets (record { device = reset_device d; reply = 0 }) (touched_at d w t)).reply ≡ pick resets 0 (step_at (channel_at d w) t).reply
    go true = refl
    go false = refl

-- ---- what is left of an event: nothing, where it does nothing here; or one that does the same here and is answered alike
-- if it is the channel's own
abbrev PassesBy : Effect → Type 0
PassesBy (Own t) = ⊥
PassesBy (Other t) = Unit {0}
PassesBy Reset = ⊥
PassesBy Nothing = Unit {0}

record StandsFor (w : Side) (l : Ledger) (m left : Made) : Type 0 where
  effect : (n : Ledger) → l.own ≡ n.own → effect_on w l m ≡ effect_on w n left
  own : of_own w m ≡ of_own w left
  number : (d k : Device) → channel_at d w ≡ channel_at k w → of_own w m ≡ true → number_for d m ≡ number_for k left

module _ (w : Side) (l : Ledger) where
  abbrev Left : Made → (List Made → Type 0) → Type 0
  Left m P = (PassesBy (effect_on w l m) → of_own w m ≡ false → P []) → ((left : Made) → StandsFor w l m left → P (left ∷ [])) → P (left_of w l.other m)

  left_at : (channel : ℕ) (t : Touch) (P : List Made → Type 0) → Left (Ok (event.At channel t)) P
  unfolding answered_of answer_number step_of
  left_at channel t P none one = go (is_side w (side_numbered channel)) refl (resets_by l.other t) refl
    where
      go : (own : Bool) → is_side w (side_numbered channel) ≡ own → (resets : Bool) → resets_by l.other t ≡ resets
          → P (pick own (Ok (event.At channel t) ∷ []) (pick resets (Ok event.Reset ∷ []) []))
      go true own resets r =
          one (Ok (event.At channel t))
          (record {
            effect = λ n same. rw (own, same);
            own = refl;
            number = λ d k same _. rw (own_side w (side_numbered channel) own)
                (named_reply d w t ∙ ap (λ (ch : Channel). reply_by ch t) same ∙ sym (named_reply k w t));
          })
      go false own true r =
          one (Ok event.Reset) (record { effect = λ n same. rw (own, r); own = own; number = λ d k same h. cc })
      go false own false r = none (rw (own, r) tt) own

  left_by : (m : Made) (P : List Made → Type 0) → Left m P
  left_by (Ok (event.At channel t)) P none one = left_at channel t P none one
  left_by (Ok event.Reset) P none one =
      one (Ok event.Reset) (record { effect = λ n same. refl; own = refl; number = λ d k same h. cc })
  left_by (Ok event.IrqLook) P none one =
      one (Ok event.IrqLook) (record { effect = λ n same. refl; own = refl; number = λ d k same h. cc })
  left_by (Err r) P none one = none tt refl

-- ---- two devices whose channel w is the same, each with its ledger
record Beside (w : Side) (d k : Device) (l n : Ledger) : Type 0 where
  d_same : Same w d l
  k_same : Same w k n
  own : l.own ≡ n.own
  tally : l.tally ≡ n.tally
  channel : channel_at d w ≡ channel_at k w

passed_by : (l : Ledger) (f : Effect) → PassesBy f → ((ledger_after l f).own ≡ l.own) × ((ledger_after l f).tally ≡ l.tally)
unfolding ledger_after tally_after
passed_by l (Own t) by = absurd by
passed_by l (Other t) by = (refl, refl)
passed_by l Reset by = absurd by
passed_by l Nothing by = (refl, refl)

left_alone : (ch : Channel) (f : Effect) → PassesBy f → channel_met ch f ≡ ch
left_alone ch (Own t) by = absurd by
left_alone ch (Other t) by = refl
left_alone ch Reset by = absurd by
left_alone ch Nothing by = refl

module _ (w : Side) (d k : Device) (l n : Ledger) (m : Made) (h : Beside w d k l n) where
  beside_none : PassesBy (effect_on w l m) → Beside w (answered_of d m).device k (judged_by w l m) n
  unfolding judged_by
  beside_none by =
      let passed = passed_by l (effect_on w l m) by in
      record {
        d_same = same_answered w d l m h.d_same;
        k_same = h.k_same;
        own = passed.0 ∙ h.own;
        tally = passed.1 ∙ h.tally;
        channel = (seen w d l h.d_same m).own ∙ left_alone (channel_at d w) (effect_on w l m) by ∙ h.channel;
      }

  beside_one : (left : Made) → StandsFor w l m left
      → Beside w (answered_of d m).device (answered_of k left).device (judged_by w l m) (judged_by w n left)
  unfolding judged_by ledger_after
  beside_one left for =
      let same : effect_on w l m ≡ effect_on w n left = for.effect n h.own in
      record {
        d_same = same_answered w d l m h.d_same;
        k_same = same_answered w k n left h.k_same;
        own = rw (same, h.own);
        tally = rw (same, h.own, h.tally);
        channel =
            (seen w d l h.d_same m).own
            ∙ ap (channel_met (channel_at d w)) same
            ∙ ap (λ (ch : Channel). channel_met ch (effect_on w n left)) h.channel
            ∙ sym (seen w k n h.k_same left).own;
      }

-- ---- over every history
-- the judgement, the answers and the record after a history and after another
record SameRun (w : Side) (d k : Device) (l n : Ledger) (history another : List Made) : Type 0 where
  registers : (judged_from w l history).own ≡ (judged_from w n another).own
  tally : (judged_from w l history).tally ≡ (judged_from w n another).tally
  answers : own_of w history (map answer_number (answers_from d history)) ≡ own_of w another (map answer_number (answers_from k another))
  channel : channel_at (ran_from d history) w ≡ channel_at (ran_from k another) w

answers_more : (own : Bool) {a b : ℕ} {xs ys : List ℕ} → (own ≡ true → a ≡ b) → xs ≡ ys → pick own (a ∷ xs) xs ≡ pick own (b ∷ ys) ys
answers_more true same rest = λ i. same refl i ∷ rest i
answers_more false same rest = rest

same_run : (w : Side) (history : List Made) (d k : Device) (l n : Ledger) → Beside w d k l n
    → SameRun w d k l n history (remainder_from w l history)
same_run w [] d k l n h = record { registers = h.own; tally = h.tally; answers = refl; channel = h.channel }
same_run w (m ∷ history) d k l n h =
    left_by w l m (λ left. SameRun w d k l n (m ∷ history) (left ++ remainder_from w (judged_by w l m) history))
    (λ by other.
    let rest : SameRun w (answered_of d m).device k (judged_by w l m) n history (remainder_from w (judged_by w l m) history) =
    same_run w history (answered_of d m).device k (judged_by w l m) n (beside_none w d k l n m h by) in
    record { registers = rest.registers; tally = rest.tally; answers = rw other rest.answers; channel = rest.channel })
    (λ left for.
    let rest : SameRun w (answered_of d m).device (answered_of k left).device (judged_by w l m) (judged_by w n left) history (remainder_from w (judged_by w l m) history) =
    same_run w history (answered_of d m).device (answered_of k left).device (judged_by w l m) (judged_by w n left) (beside_one w d k l n m h left for) in
    record {
      registers = rest.registers;
      tally = rest.tally;
      answers = rw (← for.own) (answers_more (of_own w m) (for.number d k h.channel) rest.answers);
      channel = rest.channel;
    })

left_over : (w : Side) (history : List Made) → Alone w (log_of history) (log_of (remainder w history))
left_over w history =
    let run : SameRun w new_device new_device fresh_ledger fresh_ledger history (remainder w history) =
    same_run w history new_device new_device fresh_ledger fresh_ledger
    (record { d_same = (agrees_new w).same; k_same = (agrees_new w).same; own = refl; tally = refl; channel = refl }) in
    record { same_registers = run.registers; same_tally = run.tally; same_answers = run.answers; same_record = run.channel }

-- "Nothing done on the other channel alters any of this": a log, and the one of what is left of its history
pub without_other : (w : Side) (log : Log) → OfNewDevice log → Alone w log (log_of (remainder w log.history))
without_other w log of = by_log (λ log. Alone w log (log_of (remainder w log.history))) log of (left_over w log.history)

-- two logs with the same left of their histories
pub alone : (w : Side) (log another : Log) → OfNewDevice log → OfNewDevice another
    → remainder w log.history ≡ remainder w another.history → Alone w log another
alone w log another of of' same =
    let a : Alone w log (log_of (remainder w log.history)) = without_other w log of in
    let b : Alone w another (log_of (remainder w log.history)) = rw same (without_other w another of') in
    record {
      same_registers = a.same_registers ∙ sym b.same_registers;
      same_tally = a.same_tally ∙ sym b.same_tally;
      same_answers = a.same_answers ∙ sym b.same_answers;
      same_record = a.same_record ∙ sym b.same_record;
    }
