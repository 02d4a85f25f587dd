-- For proofs alone: after every history a device agrees with the judge. The stored registers of both channels are those that the
-- ledger has, and the judged channel's receive queue holds what its tally has unread.
use Rattle.std.proofs.Common.{arith, ap, ◌∙◌}
use Rattle.std.specs.Prelude.{◌≡◌, refl, List, [], ◌∷◌}
use Rattle.queue.specs.Queue.{empty_queue, moved_by}
use Rattle.queue.specs.Laws.{items_cleared}
use Rattle.event.specs.Events.{Made}
use Rattle.registers.specs.declared.settings.Settings.{Settings}
use Rattle.levels.specs.Queues.{room_of}
use Rattle.levels.specs.Laws.{room_in}
use Rattle.channel.specs.declared.channel.Channel.{Channel}
use Rattle.channel.specs.Channel.{WellFormed}
use Rattle.acts.specs.Touches.{receive_change}
use Rattle.acts.specs.Laws.{touched_settings, touched_rx}
use Rattle.device.specs.declared.side.Side.{Side}
use Rattle.device.specs.declared.side.Side.TheVariants as side
use Rattle.device.specs.declared.device.Device.{Device}
use Rattle.device.specs.Reset.{reset_of, blank_channel, reset_device, new_device}
use Rattle.device.specs.Device as device
use Rattle.device.specs.Device.{channel_at, answered_of}
use Rattle.device.specs.Laws.{other_side, well_formed_new, well_formed_at, well_formed_answered}
use Rattle.history.specs.Judge.{Tally, tally_after, Ledger, fresh_ledger, Effect, Own, Other, Reset, Nothing, effect_on, change_by, settings_met, elsewhere, ledger_after, judged_by, judged_from, judgement}
use Rattle.history.specs.Demand3.{ran_from, ran, AllIn}
use Rattle.history.specs.Tally.{Holds}
use Rattle.history.proofs.Tally.{holds_changed}
use Rattle.history.specs.Seen.{channel_met, Seen, Same}
use Rattle.history.proofs.Seen.{seen}
use Rattle.history.specs.Agreement.{Agrees}

-- ---- an effect at a channel
met_settings : (ch : Channel) (f : Effect) → (channel_met ch f).settings ≡ settings_met ch.settings f
unfolding reset_of
met_settings ch (Own t) = touched_settings ch t
met_settings ch (Other t) = refl
met_settings ch Reset = refl
met_settings ch Nothing = refl

met_holds : (ch : Channel) (f : Effect) (l : Tally) → WellFormed ch → Holds ch.rx l
    → Holds (channel_met ch f).rx (tally_after l (change_by ch.settings f) (room_of ch.settings))
unfolding reset_of tally_after moved_by
met_holds ch (Own t) l ok h =
    rw (touched_rx ch t) (holds_changed ch.rx l (receive_change ch.settings t) (room_of ch.settings) ok.rx_in (room_in ch.settings) h)
met_holds ch (Other t) l ok h = h
met_holds ch Reset l ok h = record { within = omega arith; same = items_cleared ch.rx 64 }
met_holds ch Nothing l ok h = h

met_holds_by : (ch : Channel) (s : Settings) (f : Effect) (l : Tally) → ch.settings ≡ s → WellFormed ch → Holds ch.rx l
    → Holds (channel_met ch f).rx (tally_after l (change_by s f) (room_of s))
met_holds_by ch s f l e ok h = rw (← e) (met_holds ch f l ok h)

-- ---- one event
pub same_answered : (w : Side) (d : Device) (l : Ledger) (m : Made) → Same w d l → Same w (answered_of d m).device (judged_by w l m)
unfolding judged_by ledger_after
same_answered w d l m h =
    let at : Seen w d (answered_of d m).device (effect_on w l m) = seen w d l h m in
    record {
      own =
          ap (λ (ch : Channel). ch.settings) at.own ∙ met_settings (channel_at d w) (effect_on w l m)
          ∙ ap (λ (s : Settings). settings_met s (effect_on w l m)) h.own;
      other =
          ap (λ (ch : Channel). ch.settings) at.other ∙ met_settings (channel_at d (other_side w)) (elsewhere (effect_on w l m))
          ∙ ap (λ (s : Settings). settings_met s (elsewhere (effect_on w l m))) h.other;
    }

pub agrees_answered : (w : Side) (d : Device) (l : Ledger) (m : Made) → device.WellFormed d → Agrees w d l → Agrees w (answered_of d m).device (judged_by w l m)
unfolding judged_by ledger_after
agrees_answered w d l m ok h =
    record {
      same = same_answered w d l m h.same;
      holds =
          rw (seen w d l h.same m).own
          (met_holds_by (channel_at d w) l.own (effect_on w l m) l.tally h.same.own (well_formed_at d w ok) h.holds);
    }

-- ---- every history
pub agrees_new : (w : Side) → Agrees w new_device fresh_ledger
unfolding new_device reset_device reset_of blank_channel moved_by
agrees_new side.A = record { same = record { own = refl; other = refl }; holds = record { within = omega arith; same = items_cleared empty_queue 64 } }
agrees_new side.B = record { same = record { own = refl; other = refl }; holds = record { within = omega arith; same = items_cleared empty_queue 64 } }

agrees_run : (w : Side) (history : List Made) (d : Device) (l : Ledger) → AllIn history → device.WellFormed d → Agrees w d l → Agrees w (ran_from d history) (judged_from w l history)
agrees_run w [] d l range ok h = h
agrees_run w (m ∷ history) d l range ok h =
    agrees_run w history (answered_of d m).device (judged_by w l m) range.1 (well_formed_answered d m range.0 ok) (agrees_answered w d l m ok h)

pub agreement : (w : Side) (history : List Made) → AllIn history → Agrees w (ran history) (judgement w history)
agreement w history range = agrees_run w history new_device fresh_ledger range well_formed_new (agrees_new w)

ran_well_formed : (history : List Made) (d : Device) → AllIn history → device.WellFormed d → device.WellFormed (ran_from d history)
ran_well_formed [] d range ok = ok
ran_well_formed (m ∷ history) d range ok = ran_well_formed history (answered_of d m).device range.1 (well_formed_answered d m range.0 ok)

pub well_formed_ran : (history : List Made) → AllIn history → device.WellFormed (ran history)
well_formed_ran history range = ran_well_formed history new_device range well_formed_new
