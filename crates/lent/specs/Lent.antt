-- Definitions: the step on a record that the caller lends.
use Rattle.std.specs.Prelude.{ℕ, ◌≡◌}
use Rattle.event.specs.declared.events.Touch.{Touch}
use Rattle.event.specs.Events.{Made}
use Rattle.acts.specs.Step.{step_at, touched_by}
use Rattle.device.specs.declared.device.Device.{Device}
use Rattle.device.specs.declared.side.Side.{Side}
use Rattle.device.specs.Device.{channel_at, with_channel, answered_of, answer_number}
use Rattle.lent.specs.declared.thin.Gave.{Gave}

-- what an event does to a lent record, and the number that it is answered with
abbrev pub Advanced : Device → Made → Device → ℕ → Type 0
Advanced before m after number = (number ≡ answer_number (answered_of before m).answer) × (after ≡ (answered_of before m).device)

-- ---- what the code goes by: one channel of a lent record touched, with the reply, and whether the device is still to be reset
pub record Touched (before : Device) (at : Side) (t : Touch) (after : Device) (gave : Gave) : Type 0 where
  pub device_is : after ≡ with_channel before at (touched_by (channel_at before at) t)
  pub resets_is : gave.resets ≡ (step_at (channel_at before at) t).resets
  pub reply_is : gave.reply ≡ (step_at (channel_at before at) t).reply
