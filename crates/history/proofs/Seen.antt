-- For proofs alone: what an event makes of each channel of a device whose stored registers the judge has.
use Rattle.std.specs.Prelude.{◌≡◌, Bool, Ok, Err}
use Rattle.std.proofs.Math.Path.{refl}
use Rattle.std.proofs.Math.Bool.{true, false}
use Rattle.bits.specs.Choice.{pick}
use Rattle.event.specs.declared.events.Event.{Event}
use Rattle.event.specs.declared.events.Event.TheVariants as event
use Rattle.event.specs.Events.{Made}
use Rattle.event.specs.declared.events.Touch.{Touch}
use Rattle.acts.specs.Touches.{resets_by}
use Rattle.acts.specs.Step.{step_at, touched_by}
use Rattle.device.specs.declared.side.Side.{Side}
use Rattle.device.specs.declared.side.Side.TheVariants as side
use Rattle.device.specs.declared.device.Device.{Device}
use Rattle.device.specs.declared.device.Stepped.{Stepped}
use Rattle.device.specs.Reset.{reset_device}
use Rattle.device.specs.Device.{channel_at, with_channel, side_numbered, touched_at, named_step, step_of, answered_of, answer_number}
use Rattle.device.specs.Laws.{other_side}
use Rattle.history.specs.Judge.{Ledger, Effect, Own, Other, Reset, is_side, named_effect, event_effect, effect_on}
use Rattle.history.specs.Seen.{Same, Seen, number_for}

-- an event of a channel is of its own or of the other
side_of : (w at : Side) → at ≡ pick (is_side w at) w (other_side w)
side_of side.A side.A = refl
side_of side.A side.B = refl
side_of side.B side.A = refl
side_of side.B side.B = refl

pub own_side : (w at : Side) → is_side w at ≡ true → at ≡ w
own_side w at own = rw own at (side_of w at)

seen_reset : (w : Side) (d : Device) → Seen w d (reset_device d) Reset
unfolding reset_device
seen_reset side.A d = record { own = refl; other = refl }
seen_reset side.B d = record { own = refl; other = refl }

seen_own : (w : Side) (d : Device) (t : Touch) → Seen w d (with_channel d w (touched_by (channel_at d w) t)) (Own t)
seen_own side.A d t = record { own = refl; other = refl }
seen_own side.B d t = record { own = refl; other = refl }

seen_other : (w : Side) (d : Device) (t : Touch)
    → Seen w d (with_channel d (other_side w) (touched_by (channel_at d (other_side w)) t)) (Other t)
seen_other side.A d t = record { own = refl; other = refl }
seen_other side.B d t = record { own = refl; other = refl }

module _ (w : Side) (d : Device) (l : Ledger) (same : Same w d l) where
  abbrev SeenBy : Stepped → Effect → Type 0
  SeenBy done f = Seen w d done.device f

  seen_named_own : (t : Touch) → SeenBy (named_step d w t) (named_effect true l t)
  unfolding named_step touched_at
  seen_named_own t = rw same.own (go (resets_by l.own t))
    where
      go : (resets : Bool) → SeenBy (pick resets (record { device = reset_device d; reply = 0 }) (touched_at d w t)) (pick resets Reset (Own t))
      go true = seen_reset w d
      go false = seen_own w d t

  seen_named_other : (t : Touch) → SeenBy (named_step d (other_side w) t) (named_effect false l t)
  unfolding named_step touched_at
  seen_named_other t = rw same.other (go (resets_by l.other t))
    where
      go : (resets : Bool)
          → SeenBy (pick resets (record { device = reset_device d; reply = 0 }) (touched_at d (other_side w) t)) (pick resets Reset (Other t))
      go true = seen_reset w d
      go false = seen_other w d t

  seen_named : (at : Side) (t : Touch) → SeenBy (named_step d at t) (named_effect (is_side w at) l t)
  seen_named at t = go (is_side w at) (side_of w at)
    where
      go : (own : Bool) → at ≡ pick own w (other_side w) → SeenBy (named_step d at t) (named_effect own l t)
      go true e = rw e (seen_named_own t)
      go false e = rw e (seen_named_other t)

  seen_event : (e : Event) → SeenBy (step_of d e) (event_effect w l e)
  unfolding step_of
  seen_event (event.At channel t) = seen_named (side_numbered channel) t
  seen_event event.Reset = seen_reset w d
  seen_event event.IrqLook = record { own = refl; other = refl }

  pub seen : (m : Made) → Seen w d (answered_of d m).device (effect_on w l m)
  unfolding answered_of
  seen (Ok e) = seen_event e
  seen (Err r) = record { own = refl; other = refl }

  -- an event that touches the channel is answered by it
  named_reply : (own : Bool) (at : Side) (t u : Touch) → at ≡ pick own w (other_side w) → named_effect own l t ≡ Own u
      → (named_step d at t).reply ≡ (step_at (channel_at d w) u).reply
  unfolding named_step touched_at
  named_reply true at t u e = rw (e, same.own) (go (resets_by l.own t))
    where
      go : (resets : Bool) → pick resets Reset (Own t) ≡ Own u
          → (pick resets (record { device = reset_device d; reply = 0 }) (touched_at d w t)).reply ≡ (step_at (channel_at d w) u).reply
      go true f = cc
      go false f = let same_touch : t ≡ u = cc in rw same_touch
  named_reply false at t u e = go (resets_by l.other t)
    where
      go : (resets : Bool) → pick resets Reset (Other t) ≡ Own u → (named_step d at t).reply ≡ (step_at (channel_at d w) u).reply
      go true f = cc
      go false f = cc

  event_reply : (e : Event) (t : Touch) → event_effect w l e ≡ Own t → (step_of d e).reply ≡ (step_at (channel_at d w) t).reply
  unfolding step_of
  event_reply (event.At channel u) t f = named_reply (is_side w (side_numbered channel)) (side_numbered channel) u t (side_of w (side_numbered channel)) f
  event_reply event.Reset t f = cc
  event_reply event.IrqLook t f = cc

  pub own_reply : (m : Made) (t : Touch) → effect_on w l m ≡ Own t → number_for d m ≡ (step_at (channel_at d w) t).reply
  unfolding answered_of answer_number
  own_reply (Ok e) t f = event_reply e t f
  own_reply (Err r) t f = cc
