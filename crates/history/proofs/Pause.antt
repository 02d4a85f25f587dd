-- Laws: Xon and Xoff over every history: what is taken is not kept, the bytes that are put to wait are Xoff and Xon in turn, and a
-- channel whose EFR 3:0 stay clear is at rest.
use Rattle.std.specs.Prelude.{ℕ, ◌≡◌, refl, Bool, true, false, not, List, [], ◌∷◌, ◌++◌}
use Rattle.std.proofs.Common.{sym, ap, ◌∙◌}
use Rattle.bits.specs.Choice.{pick}
use Rattle.bits.specs.Bits.{differs}
use Rattle.event.specs.declared.events.Event.TheVariants as event
use Rattle.event.specs.Events.{Made}
use Rattle.event.specs.declared.events.Touch.{Touch}
use Rattle.event.specs.declared.events.Touch.TheVariants as touch
use Rattle.registers.specs.Pairs.{chooses_pair}
use Rattle.channel.specs.declared.channel.Channel.{Channel}
use Rattle.acts.specs.Touches.{resets_by}
use Rattle.acts.specs.Step.{touched_by}
use Rattle.acts.specs.Pause.{taken_queue}
use Rattle.acts.specs.Turns.{Put, rests_on, put_exactly}
use Rattle.acts.specs.Rest.{at_rest, NoneChosen, touched_rests}
use Rattle.device.specs.declared.side.Side.{Side}
use Rattle.device.specs.declared.side.Side.TheVariants as side
use Rattle.device.specs.declared.device.Device.{Device}
use Rattle.device.specs.Reset.{lines_reset, reset_of, reset_device, new_device}
use Rattle.device.specs.Device.{channel_at, side_numbered, touched_at, named_step, step_of, answered_of}
use Rattle.history.specs.Judge.{Ledger, fresh_ledger, Effect, Own, Other, Reset, Nothing, effect_on, ledger_after, judged_by, judgement}
use Rattle.history.specs.Demand3.{ran_from, ran, Log, OfNewDevice, number, arrival_reply, tally}
use Rattle.history.specs.Seen.{channel_met, Same}
use Rattle.history.proofs.Seen.{seen}
use Rattle.history.proofs.Agreement.{same_answered, agrees_new}
use Rattle.history.proofs.Proved.{demand_3}
use Rattle.history.proofs.Rules.{kept_exactly}
use Rattle.history.specs.Pause.{Alternate, NoneChosenIn, puts, puts_after, puts_from}

-- ---- "Demand 3 reads fate 4 as not kept": an arrival that is answered with it alters nothing that is kept or read, and leaves the
-- receive queue as it was
pub taken_not_kept : (w : Side) (log : Log) → OfNewDevice log → (byte mark : ℕ) → arrival_reply w log byte mark ≡ 4
    → (ledger_after (judgement w log.history) (Own (touch.Arrival byte mark))).tally ≡ tally w log
taken_not_kept w log made byte mark taken = kept_exactly (judgement w log.history) byte mark ∙ rw (sym ((demand_3 w log made).fate byte mark) ∙ taken)

pub taken_leaves : (d : Device) (w : Side) (byte mark : ℕ) → (step_of d (event.At (number w) (touch.Arrival byte mark))).reply ≡ 4
    → (channel_at (step_of d (event.At (number w) (touch.Arrival byte mark))).device w).rx ≡ (channel_at d w).rx
unfolding step_of side_numbered named_step touched_at resets_by
taken_leaves d side.A byte mark taken = taken_queue d.a byte mark taken
taken_leaves d side.B byte mark taken = taken_queue d.b byte mark taken

-- the latch after so many turns
abbrev latch_after_puts : Bool → List Bool → Bool
latch_after_puts first [] = not first
latch_after_puts first (x ∷ rest) = latch_after_puts (not first) rest

not_not : (x : Bool) → not (not x) ≡ x
not_not true = refl
not_not false = refl

turned_over : (x y : Bool) → differs x y ≡ true → y ≡ not x
unfolding differs
turned_over true true h = sym h
turned_over true false h = refl
turned_over false true h = refl
turned_over false false h = h

not_turned : (x y : Bool) → differs x y ≡ false → y ≡ x
unfolding differs
not_turned true true h = refl
not_turned true false h = sym h
not_turned false true h = h
not_turned false false h = refl

one_more : (first : Bool) (puts : List Bool) (x : Bool) → x ≡ not (latch_after_puts first puts) → Alternate first puts → Alternate first (puts ++ (x ∷ []))
one_more first [] x e h = (e ∙ not_not first, tt)
one_more first (y ∷ rest) x e h = (h.0, one_more (not first) rest x e h.1)

latch_over : (first : Bool) (puts : List Bool) (x : Bool) → latch_after_puts first (puts ++ (x ∷ [])) ≡ not (latch_after_puts first puts)
latch_over first [] x = refl
latch_over first (y ∷ rest) x = latch_over (not first) rest x

none_more : (puts : List Bool) → puts ++ [] ≡ puts
none_more [] = refl
none_more (x ∷ rest) = ap (λ (xs : List Bool). x ∷ xs) (none_more rest)

-- a channel and what was put to wait there: a latch that is not driven is on
record Turning (ch : Channel) (puts : List Bool) : Type 0 where
  alternate : Alternate false puts
  latch : ch.state.flow.latch ≡ latch_after_puts false puts
  rests : chooses_pair ch.settings.efr 2 ≡ false → ch.state.flow.latch ≡ true

turning_after : (before after : Channel) (puts : List Bool) → Turning before puts
    → (chooses_pair after.settings.efr 2 ≡ false → after.state.flow.latch ≡ true) → Turning after (puts_after puts before after)
turning_after before after puts h rests = go (chooses_pair after.settings.efr 2) refl (differs before.state.flow.latch after.state.flow.latch) refl
  where
    go : (sends : Bool) → chooses_pair after.settings.efr 2 ≡ sends → (turns : Bool) → differs before.state.flow.latch after.state.flow.latch ≡ turns
        → Turning after (pick sends (puts ++ pick turns (after.state.flow.latch ∷ []) []) [])
    go true on true turns =
        let over = turned_over before.state.flow.latch after.state.flow.latch turns ∙ ap not h.latch in
        record { alternate = one_more false puts after.state.flow.latch over h.alternate; latch = over ∙ sym (latch_over false puts after.state.flow.latch); rests = rests }
    go true on false stays =
        rw (none_more puts)
        (record { alternate = h.alternate; latch = not_turned before.state.flow.latch after.state.flow.latch stays ∙ h.latch; rests = rests })
    go false off turns is = record { alternate = tt; latch = rests off; rests = rests }

met_rests_on : (ch : Channel) (f : Effect) → (chooses_pair ch.settings.efr 2 ≡ false → ch.state.flow.latch ≡ true)
    → chooses_pair (channel_met ch f).settings.efr 2 ≡ false → (channel_met ch f).state.flow.latch ≡ true
unfolding reset_of lines_reset
met_rests_on ch (Own t) rests = rests_on ch t rests
met_rests_on ch (Other t) rests = rests
met_rests_on ch Reset rests = λ _. refl
met_rests_on ch Nothing rests = rests

turning_run : (w : Side) (history : List Made) (d : Device) (l : Ledger) (puts : List Bool) → Same w d l → Turning (channel_at d w) puts
    → Turning (channel_at (ran_from d history) w) (puts_from w d puts history)
turning_run w [] d l puts same h = h
turning_run w (m ∷ history) d l puts same h =
    turning_run w history (answered_of d m).device (judged_by w l m) _ (same_answered w d l m same)
    (turning_after (channel_at d w) (channel_at (answered_of d m).device w) puts h
    (rw (seen w d l same m).own (met_rests_on (channel_at d w) (effect_on w l m) h.rests)))

turning_new : (w : Side) → Turning (channel_at new_device w) []
unfolding new_device reset_device reset_of lines_reset
turning_new side.A = record { alternate = tt; latch = refl; rests = λ _. refl }
turning_new side.B = record { alternate = tt; latch = refl; rests = λ _. refl }

module _ (w : Side) (history : List Made) where
  turning : Turning (channel_at (ran history) w) (puts w history)
  turning = turning_run w history new_device fresh_ledger [] (agrees_new w).same (turning_new w)

  -- Xoff first, and then the one and the other in turn
  pub xoff_and_xon_in_turn : Alternate false (puts w history)
  xoff_and_xon_in_turn = turning.alternate

  -- where the latch turns, and there alone, a byte is put to wait: that which is stored then
  pub put_in_history : (t : Touch) → chooses_pair (touched_by (channel_at (ran history) w) t).settings.efr 2 ≡ true
      → Put (channel_at (ran history) w) (touched_by (channel_at (ran history) w) t)
  put_in_history t on = put_exactly (channel_at (ran history) w) t turning.rests on

chosen_first : (w : Side) (l : Ledger) (history : List Made) → NoneChosenIn w l history → NoneChosen l.own
chosen_first w l [] h = h
chosen_first w l (m ∷ history) h = h.0

met_rests : (ch : Channel) (f : Effect) → ch.state.flow ≡ at_rest → NoneChosen ch.settings → NoneChosen (channel_met ch f).settings
    → (channel_met ch f).state.flow ≡ at_rest
unfolding reset_of lines_reset
met_rests ch (Own t) rests none after = touched_rests ch t rests none after
met_rests ch (Other t) rests none after = rests
met_rests ch Reset rests none after = refl
met_rests ch Nothing rests none after = rests

rests_run : (w : Side) (history : List Made) (d : Device) (l : Ledger) → Same w d l → NoneChosenIn w l history → (channel_at d w).state.flow ≡ at_rest
    → (channel_at (ran_from d history) w).state.flow ≡ at_rest
rests_run w [] d l same none rests = rests
rests_run w (m ∷ history) d l same none rests =
    let after = same_answered w d l m same in
    let own = (seen w d l same m).own in
    let stored : (channel_met (channel_at d w) (effect_on w l m)).settings ≡ (judged_by w l m).own = sym (ap (λ (ch : Channel). ch.settings) own) ∙ after.own in
    rests_run w history (answered_of d m).device (judged_by w l m) after none.1
    (rw own
    (met_rests (channel_at d w) (effect_on w l m) rests (rw same.own none.0) (rw stored (chosen_first w (judged_by w l m) history none.1))))

rests_new : (w : Side) → (channel_at new_device w).state.flow ≡ at_rest
unfolding new_device reset_device reset_of lines_reset
rests_new side.A = refl
rests_new side.B = refl

pub rests_throughout : (w : Side) (history : List Made) → NoneChosenIn w fresh_ledger history → (channel_at (ran history) w).state.flow ≡ at_rest
rests_throughout w history none = rests_run w history new_device fresh_ledger (agrees_new w).same none (rests_new w)
