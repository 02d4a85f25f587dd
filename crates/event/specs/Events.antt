-- Definitions: "Events and replies": the nine kinds with their operands, made from plain numbers.
use Rattle.std.specs.Prelude.{ℕ, ◌<◌, Bool, eqb, ltb, Result, Ok, Err}
use Rattle.bits.specs.Choice.{pick}
use Rattle.event.specs.declared.kind.Kind.TheVariants as named
use Rattle.event.specs.Kinds.{kind_number}
use Rattle.event.specs.declared.refusal.Refusal.{Refusal}
use Rattle.event.specs.declared.refusal.Refusal.TheVariants as refusal
use Rattle.event.specs.declared.events.Touch.{Touch}
use Rattle.event.specs.declared.events.Touch.TheVariants as touch
use Rattle.event.specs.declared.events.Event.{Event}
use Rattle.event.specs.declared.events.Event.TheVariants as event

-- what numbers come to: an event with its values in range, or a refusal
abbrev pub Made : Type 0
Made = Result Event Refusal

-- 3: "kind above 8"
abbrev pub unknown_kind : ℕ → Bool
unknown_kind kind = ltb 8 kind

-- an operand above the most that it may be is refused, whatever comes after it
abbrev pub up_to : {A : Type 0} → ℕ → Refusal → ℕ → Result A Refusal → Result A Refusal
up_to most why operand else_made = pick (ltb most operand) (Err why) else_made

-- the refusals that an operand out of its range meets, 4 to 8
abbrev pub channel_in : {A : Type 0} → ℕ → Result A Refusal → Result A Refusal
channel_in = up_to 1 refusal.Channel

abbrev pub address_in : {A : Type 0} → ℕ → Result A Refusal → Result A Refusal
address_in = up_to 15 refusal.Address

abbrev pub byte_in : {A : Type 0} → ℕ → Result A Refusal → Result A Refusal
byte_in = up_to 255 refusal.Byte

abbrev pub mark_in : {A : Type 0} → ℕ → Result A Refusal → Result A Refusal
mark_in = up_to 7 refusal.Mark

abbrev pub pins_in : {A : Type 0} → ℕ → Result A Refusal → Result A Refusal
pins_in = up_to 15 refusal.Pins

-- the event of what happens at a channel
abbrev pub event_at : ℕ → Result Touch Refusal → Made
event_at channel (Ok t) = Ok (event.At channel t)
event_at channel (Err why) = Err why

-- what happens by a kind that names a channel, by its further operands
unfoldable pub touch_of : ℕ → ℕ → ℕ → Result Touch Refusal
touch_of kind y z =
    pick (eqb kind (kind_number named.Write)) (address_in y (byte_in z (Ok (touch.Write y z))))
    (pick (eqb kind (kind_number named.Read)) (address_in y (Ok (touch.Read y)))
    (pick (eqb kind (kind_number named.Arrival)) (byte_in y (mark_in z (Ok (touch.Arrival y z))))
    (pick (eqb kind (kind_number named.Slot)) (Ok touch.Slot)
    (pick (eqb kind (kind_number named.Pins)) (pins_in y (Ok (touch.Pins y)))
    (pick (eqb kind (kind_number named.Quiet)) (Ok touch.Quiet) (Ok touch.RtsLook))))))

-- "judge 3 and then 4 to 8; operands that the kind lacks aren't looked at"
unfoldable pub event_of : ℕ → ℕ → ℕ → ℕ → Made
event_of kind x y z =
    pick (unknown_kind kind) (Err refusal.Kind)
    (pick (eqb kind (kind_number named.Reset)) (Ok event.Reset)
    (pick (eqb kind (kind_number named.IrqLook)) (Ok event.IrqLook)
    (channel_in x (event_at x (touch_of kind y z)))))

-- an event's own numbers: its kind, and its operands with 0 for those that the kind lacks
pub record Numbers : Type 0 where
  pub kind : ℕ
  pub x : ℕ
  pub y : ℕ
  pub z : ℕ

abbrev pub numbers_at : ℕ → Touch → Numbers
numbers_at channel (touch.Write address byte) = record { kind = kind_number named.Write; x = channel; y = address; z = byte }
numbers_at channel (touch.Read address) = record { kind = kind_number named.Read; x = channel; y = address; z = 0 }
numbers_at channel (touch.Arrival byte mark) = record { kind = kind_number named.Arrival; x = channel; y = byte; z = mark }
numbers_at channel touch.Slot = record { kind = kind_number named.Slot; x = channel; y = 0; z = 0 }
numbers_at channel (touch.Pins value) = record { kind = kind_number named.Pins; x = channel; y = value; z = 0 }
numbers_at channel touch.Quiet = record { kind = kind_number named.Quiet; x = channel; y = 0; z = 0 }
numbers_at channel touch.RtsLook = record { kind = kind_number named.RtsLook; x = channel; y = 0; z = 0 }

abbrev pub numbers_of : Event → Numbers
numbers_of (event.At channel t) = numbers_at channel t
numbers_of event.Reset = record { kind = kind_number named.Reset; x = 0; y = 0; z = 0 }
numbers_of event.IrqLook = record { kind = kind_number named.IrqLook; x = 0; y = 0; z = 0 }

-- what numbers come to
abbrev pub made_of : Numbers → Made
made_of n = event_of n.kind n.x n.y n.z

-- what happens judged by its own numbers: itself, or its refusal
unfoldable pub touch_judged : Touch → Result Touch Refusal
touch_judged t = touch_of (numbers_at 0 t).kind (numbers_at 0 t).y (numbers_at 0 t).z

-- an event judged by its own numbers: itself, or its refusal
unfoldable pub judged_of : Event → Made
judged_of e = made_of (numbers_of e)

-- an event whose values are all in range
abbrev pub TouchIn : Touch → Type 0
TouchIn (touch.Write address byte) = (address < 16) × (byte < 256)
TouchIn (touch.Read address) = address < 16
TouchIn (touch.Arrival byte mark) = (byte < 256) × (mark < 8)
TouchIn touch.Slot = Unit {0}
TouchIn (touch.Pins value) = value < 16
TouchIn touch.Quiet = Unit {0}
TouchIn touch.RtsLook = Unit {0}

abbrev pub InRange : Event → Type 0
InRange (event.At channel t) = (channel < 2) × TouchIn t
InRange event.Reset = Unit {0}
InRange event.IrqLook = Unit {0}
