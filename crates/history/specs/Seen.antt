-- For proofs alone: what an event makes of each channel of a device whose stored registers the judge has, as `proofs/Seen` shows.
use Rattle.std.specs.Prelude.{ℕ, ◌≡◌}
use Rattle.event.specs.Events.{Made}
use Rattle.channel.specs.declared.channel.Channel.{Channel}
use Rattle.acts.specs.Step.{touched_by}
use Rattle.device.specs.declared.side.Side.{Side}
use Rattle.device.specs.declared.device.Device.{Device}
use Rattle.device.specs.Reset.{reset_of}
use Rattle.device.specs.Device.{channel_at, answered_of, answer_number}
use Rattle.device.specs.Laws.{other_side}
use Rattle.history.specs.Judge.{Ledger, Effect, met_by, elsewhere}

-- the number that an event is answered with
abbrev pub number_for : Device → Made → ℕ
number_for d m = answer_number (answered_of d m).answer

-- a channel after an event that it meets
abbrev pub channel_met : Channel → Effect → Channel
channel_met ch f = met_by touched_by reset_of ch f

-- what is seen at both channels of a device after an event
pub record Seen (w : Side) (before after : Device) (f : Effect) : Type 0 where
  pub own : channel_at after w ≡ channel_met (channel_at before w) f
  pub other : channel_at after (other_side w) ≡ channel_met (channel_at before (other_side w)) (elsewhere f)

-- the stored registers of both channels are those that the ledger has
pub record Same (w : Side) (d : Device) (l : Ledger) : Type 0 where
  pub own : (channel_at d w).settings ≡ l.own
  pub other : (channel_at d (other_side w)).settings ≡ l.other
