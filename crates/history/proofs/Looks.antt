-- Laws: looks disturb nothing. The device is settled after every history, so an RTS look and an IRQ look leave it as it is, and a
-- history without its looks leads to the same device.
use Rattle.std.specs.Prelude.{ℕ, ◌≡◌, refl, Bool, true, false, List, [], ◌∷◌, Ok, Err}
use Rattle.bits.specs.Choice.{pick, apart}
use Rattle.event.specs.declared.events.Event.TheVariants as event
use Rattle.event.specs.Events.{Made}
use Rattle.event.specs.declared.events.Touch.TheVariants as touch
use Rattle.device.specs.declared.device.Device.{Device}
use Rattle.device.specs.Reset.{new_device}
use Rattle.device.specs.Device.{answered_of}
use Rattle.device.specs.Settled.{Settled, settled_new, settled_answered, rts_look_left, irq_look_left}
use Rattle.history.specs.Demand3.{ran_from, ran}
use Rattle.history.specs.Looks.{irq_look, looks, rts_look, without_looks}

settled_from : (history : List Made) (d : Device) → Settled d → Settled (ran_from d history)
settled_from [] d h = h
settled_from (m ∷ history) d h = settled_from history (answered_of d m).device (settled_answered d m h)

pub settled_ran : (history : List Made) → Settled (ran history)
settled_ran history = settled_from history new_device settled_new

pub rts_look_disturbs_nothing : (history : List Made) (channel : ℕ) → (answered_of (ran history) (rts_look channel)).device ≡ ran history
unfolding answered_of
rts_look_disturbs_nothing history channel = rts_look_left (ran history) channel (settled_ran history)

pub irq_look_disturbs_nothing : (history : List Made) → (answered_of (ran history) irq_look).device ≡ ran history
unfolding answered_of
irq_look_disturbs_nothing history = irq_look_left (ran history)

look_leaves : (m : Made) (d : Device) → Settled d → looks m ≡ true → (answered_of d m).device ≡ d
unfolding answered_of
look_leaves (Ok (event.At channel (touch.Write address byte))) d h look = absurd (apart look)
look_leaves (Ok (event.At channel (touch.Read address))) d h look = absurd (apart look)
look_leaves (Ok (event.At channel (touch.Arrival byte mark))) d h look = absurd (apart look)
look_leaves (Ok (event.At channel touch.Slot)) d h look = absurd (apart look)
look_leaves (Ok (event.At channel (touch.Pins value))) d h look = absurd (apart look)
look_leaves (Ok (event.At channel touch.Quiet)) d h look = absurd (apart look)
look_leaves (Ok (event.At channel touch.RtsLook)) d h look = rts_look_left d channel h
look_leaves (Ok event.Reset) d h look = absurd (apart look)
look_leaves (Ok event.IrqLook) d h look = irq_look_left d
look_leaves (Err r) d h look = absurd (apart look)

looks_from : (history : List Made) (d : Device) → Settled d → ran_from d history ≡ ran_from d (without_looks history)
looks_from [] d h = refl
looks_from (m ∷ history) d h = go (looks_from history) (looks m) refl
  where
    go : ((k : Device) → Settled k → ran_from k history ≡ ran_from k (without_looks history)) → (look : Bool) → looks m ≡ look
        → ran_from (answered_of d m).device history ≡ ran_from d (pick look (without_looks history) (m ∷ without_looks history))
    go again true look = rw (look_leaves m d h look) (again d h)
    go again false look = again (answered_of d m).device (settled_answered d m h)

pub looks_disturb_nothing : (history : List Made) → ran history ≡ ran (without_looks history)
looks_disturb_nothing history = looks_from history new_device settled_new
