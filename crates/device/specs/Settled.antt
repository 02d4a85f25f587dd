-- Laws: both channels are settled in a new device and after every event, so that a look leaves the device exactly as it is.
use Rattle.std.specs.Prelude.{ℕ, ◌≡◌, false, Ok, Err}
use Rattle.std.proofs.Math.Path.{refl}
use Rattle.bits.specs.Choice.{pick_by}
use Rattle.bits.specs.Bits.{bit_at, part_at}
use Rattle.queue.specs.Queue.{clears_all, after_of}
use Rattle.event.specs.declared.events.Event.{Event}
use Rattle.event.specs.declared.events.Event.TheVariants as event
use Rattle.event.specs.Events.{Made}
use Rattle.event.specs.declared.events.Touch.{Touch}
use Rattle.event.specs.declared.events.Touch.TheVariants as touch
use Rattle.registers.specs.declared.register.Register.TheVariants as register
use Rattle.registers.specs.Windows.{register_at}
use Rattle.registers.specs.Writes.{resets_device}
use Rattle.registers.specs.Pairs.{chooses_pair}
use Rattle.lines.specs.Transmit.{spaces_of, all_free, thr_condition}
use Rattle.lines.specs.Rts.{latch_after}
use Rattle.flow.specs.Flow.{flow_settled}
use Rattle.channel.specs.declared.channel.Channel.{Channel}
use Rattle.acts.specs.Touches.{resets_by}
use Rattle.acts.specs.Step.{touched_by}
use Rattle.acts.specs.Settled as channel
use Rattle.acts.specs.Settled.{touch_settles, look_left, closed_read_left, closed_write_left}
use Rattle.device.specs.declared.side.Side.{Side}
use Rattle.device.specs.declared.side.Side.TheVariants as side
use Rattle.device.specs.declared.device.Device.{Device}
use Rattle.device.specs.declared.device.Stepped.{Stepped}
use Rattle.device.specs.Reset.{settings_reset, lines_reset, reset_of, blank_channel, reset_device, new_device}
use Rattle.device.specs.Device.{channel_at, with_channel, side_numbered, touched_at, named_step, step_of, answered_of}
use Rattle.device.specs.Laws.{same_with}

pub record Settled (d : Device) : Type 0 where
  pub a_settled : channel.Settled d.a
  pub b_settled : channel.Settled d.b

settled_at : (d : Device) (at : Side) → Settled d → channel.Settled (channel_at d at)
settled_at d side.A h = h.a_settled
settled_at d side.B h = h.b_settled

settled_with : (d : Device) (at : Side) (ch : Channel) → Settled d → channel.Settled ch → Settled (with_channel d at ch)
settled_with d side.A ch h s = record { a_settled = s; b_settled = h.b_settled }
settled_with d side.B ch h s = record { a_settled = h.a_settled; b_settled = s }

-- ---- a reset asserts the latch with EFR 6 clear, has EFR send nothing, and sets the THR flag with the transmit queue empty
settled_reset : (ch : Channel) → channel.Settled (reset_of ch)
unfolding reset_of settings_reset lines_reset latch_after flow_settled chooses_pair thr_condition all_free spaces_of clears_all after_of bit_at part_at
settled_reset ch = record { latch_ruled = refl; flow_ruled = refl; thr_true = λ _. refl }

pub settled_reset_device : (d : Device) → Settled (reset_device d)
unfolding reset_device
settled_reset_device d = record { a_settled = settled_reset d.a; b_settled = settled_reset d.b }

pub settled_new : Settled new_device
unfolding new_device
settled_new = settled_reset_device (record { a = blank_channel; b = blank_channel })

-- ---- every event keeps both settled, and a refused one changes nothing
settled_named : (d : Device) (at : Side) (t : Touch) → Settled d → Settled (named_step d at t).device
unfolding named_step touched_at
settled_named d at t h =
    pick_by (λ (done : Stepped). Settled done.device) (resets_by (channel_at d at).settings t)
    (λ _. settled_reset_device d)
    (λ _. settled_with d at (touched_by (channel_at d at) t) h (touch_settles (channel_at d at) t))

settled_step : (d : Device) (e : Event) → Settled d → Settled (step_of d e).device
unfolding step_of
settled_step d (event.At channel t) h = settled_named d (side_numbered channel) t h
settled_step d event.Reset h = settled_reset_device d
settled_step d event.IrqLook h = h

pub settled_answered : (d : Device) (m : Made) → Settled d → Settled (answered_of d m).device
unfolding answered_of
settled_answered d (Ok e) h = settled_step d e h
settled_answered d (Err r) h = h

-- ---- what leaves the channel that it names as it is, leaves the device as it is
left_alone : (d : Device) (at : Side) (t : Touch) → resets_by (channel_at d at).settings t ≡ false → touched_by (channel_at d at) t ≡ channel_at d at
    → (named_step d at t).device ≡ d
unfolding named_step touched_at
left_alone d at t kept left = rw (kept, left) (same_with d at)

-- an RTS look and an IRQ look
pub rts_look_left : (d : Device) (channel : ℕ) → Settled d → (step_of d (event.At channel touch.RtsLook)).device ≡ d
unfolding step_of resets_by
rts_look_left d channel h =
    left_alone d (side_numbered channel) touch.RtsLook refl (look_left (channel_at d (side_numbered channel)) (settled_at d (side_numbered channel) h))

pub irq_look_left : (d : Device) → (step_of d event.IrqLook).device ≡ d
unfolding step_of
irq_look_left d = refl

-- a closed address read or written
module _ (d : Device) (channel address : ℕ) (h : Settled d) (closed : register_at (channel_at d (side_numbered channel)).settings address ≡ register.Closed) where
  pub closed_read_leaves : (step_of d (event.At channel (touch.Read address))).device ≡ d
  unfolding step_of resets_by
  closed_read_leaves =
      left_alone d (side_numbered channel) (touch.Read address) refl
      (closed_read_left (channel_at d (side_numbered channel)) address closed (settled_at d (side_numbered channel) h))

  pub closed_write_leaves : (byte : ℕ) → (step_of d (event.At channel (touch.Write address byte))).device ≡ d
  unfolding step_of resets_by resets_device
  closed_write_leaves byte =
      left_alone d (side_numbered channel) (touch.Write address byte) (rw closed)
      (closed_write_left (channel_at d (side_numbered channel)) address byte closed (settled_at d (side_numbered channel) h))
