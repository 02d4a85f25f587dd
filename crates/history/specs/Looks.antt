-- Definitions: the looks, and a history without them. `proofs/Looks` shows that they disturb nothing.
use Rattle.std.specs.Prelude.{ℕ, Bool, true, false, List, [], ◌∷◌, Ok, Err}
use Rattle.bits.specs.Choice.{pick}
use Rattle.event.specs.declared.events.Event.{Event}
use Rattle.event.specs.declared.events.Event.TheVariants as event
use Rattle.event.specs.Events.{Made}
use Rattle.event.specs.declared.events.Touch.{Touch}
use Rattle.event.specs.declared.events.Touch.TheVariants as touch

-- ---- an RTS look, an IRQ look
abbrev pub rts_look : ℕ → Made
rts_look channel = Ok (event.At channel touch.RtsLook)

abbrev pub irq_look : Made
irq_look = Ok event.IrqLook

-- ---- a history without its looks
abbrev touch_looks : Touch → Bool
touch_looks (touch.Write address byte) = false
touch_looks (touch.Read address) = false
touch_looks (touch.Arrival byte mark) = false
touch_looks touch.Slot = false
touch_looks (touch.Pins value) = false
touch_looks touch.Quiet = false
touch_looks touch.RtsLook = true

abbrev event_looks : Event → Bool
event_looks (event.At channel t) = touch_looks t
event_looks event.Reset = false
event_looks event.IrqLook = true

abbrev pub looks : Made → Bool
looks (Ok e) = event_looks e
looks (Err r) = false

abbrev pub without_looks : List Made → List Made
without_looks [] = []
without_looks (m ∷ history) = pick (looks m) (without_looks history) (m ∷ without_looks history)
