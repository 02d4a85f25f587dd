-- Definitions: the device: its record, and what an event makes of it.
use Rattle.std.specs.Prelude.{ℕ, Bool, ◌||◌, eqb, Result, Ok, Err}
use Rattle.bits.specs.Choice.{pick}
use Rattle.bits.specs.Bits.{one_if}
use Rattle.event.specs.declared.refusal.Refusal.{Refusal}
use Rattle.event.specs.declared.events.Event.{Event}
use Rattle.event.specs.declared.events.Event.TheVariants as event
use Rattle.event.specs.Events.{Made}
use Rattle.event.specs.declared.events.Touch.{Touch}
use Rattle.event.specs.Refusals.{refusal_number, refused_answer}
use Rattle.interrupts.specs.Interrupts.{is_pending}
use Rattle.channel.specs.declared.channel.Channel.{Channel}
use Rattle.channel.specs.Channel as channel
use Rattle.channel.specs.Channel.{pending_at}
use Rattle.acts.specs.Touches.{resets_by}
use Rattle.acts.specs.Step.{step_at, touched_by}
use Rattle.device.specs.declared.side.Side.{Side}
use Rattle.device.specs.declared.side.Side.TheVariants as side
use Rattle.device.specs.declared.device.Device.{Device}
use Rattle.device.specs.declared.device.Stepped.{Stepped}
use Rattle.device.specs.declared.device.Outcome.{Outcome}
use Rattle.device.specs.Reset.{reset_device}

-- "Of a record a contract may ask only that it is well formed"
pub record WellFormed (d : Device) : Type 0 where
  pub a_in : channel.WellFormed d.a
  pub b_in : channel.WellFormed d.b

-- the channel of a number in range: 0 or 1
unfoldable pub side_numbered : ℕ → Side
side_numbered channel = pick (eqb channel 0) side.A side.B

abbrev pub channel_at : Device → Side → Channel
channel_at d side.A = d.a
channel_at d side.B = d.b

-- the device with another record in a channel's place
abbrev pub with_channel : Device → Side → Channel → Device
with_channel d side.A ch = record { a = ch; b = d.b }
with_channel d side.B ch = record { a = d.a; b = ch }

-- an event that touches a channel leaves the other as it was
unfoldable pub touched_at : Device → Side → Touch → Stepped
touched_at d at t = record { device = with_channel d at (touched_by (channel_at d at) t); reply = (step_at (channel_at d at) t).reply }

-- a device with the reply, reset or as it is
unfoldable pub given_for : Device → Bool → ℕ → Stepped
given_for d resets reply = record { device = pick resets (reset_device d) d; reply = reply }

-- an event that names a channel touches it, or resets the device: "a reset is the act only, on both channels"
unfoldable pub named_step : Device → Side → Touch → Stepped
named_step d at t =
    pick (resets_by (channel_at d at).settings t) (record { device = reset_device d; reply = 0 }) (touched_at d at t)

-- IRQ look: "1 if either channel has an interrupt pending, else 0"
unfoldable pub irq_of : Channel → Channel → Bool
irq_of a b = is_pending (pending_at a) || is_pending (pending_at b)

-- the step on an event in range
unfoldable pub step_of : Device → Event → Stepped
step_of d (event.At channel t) = named_step d (side_numbered channel) t
step_of d event.Reset = record { device = reset_device d; reply = 0 }
step_of d event.IrqLook = record { device = d; reply = one_if (irq_of d.a d.b) }

-- what an event is answered with: the reply, or why it is refused
abbrev pub Answer : Type 0
Answer = Result ℕ Refusal

-- "A refused event leaves the device unchanged"
unfoldable pub answered_of : Device → Made → Outcome
answered_of d (Ok e) = record { device = (step_of d e).device; answer = Ok (step_of d e).reply }
answered_of d (Err r) = record { device = d; answer = Err r }

-- an answer as one number: the reply, or 512 and the refusal number
unfoldable pub answer_number : Answer → ℕ
answer_number (Ok n) = n
answer_number (Err r) = refused_answer (refusal_number r)
