-- For proofs alone: what lies behind the borrow once a step's parts are stored.
use Rattle.std.specs.Prelude.{None}
use mathlib.Core.Path.{◌≡◌}
use mathlib.Core.Bool.{true, false}
use Rattle.event.specs.declared.events.Touch.{Touch}
use Rattle.channel.specs.declared.channel.Channel.{Channel}
use Rattle.channel.specs.declared.settle.Step.{Step}
use Rattle.channel.specs.Settle.{after_step}
use Rattle.acts.specs.Step.{step_at, touched_by}
use Rattle.acts.specs.Laws.{none_set}
use Rattle.queue.specs.declared.Queue.{Queue}
use Rattle.queue.specs.Queue.{after_of}
use Rattle.device.specs.declared.device.Device.{Device}
use Rattle.device.specs.declared.side.Side.{Side}
use Rattle.device.specs.Reset.{reset_device}
use Rattle.device.specs.Device.{given_for, named_step}
use Rattle.device.specs.Laws.{named_in_turn}
use Rattle.lent.specs.declared.thin.Gave.{Gave}
use Rattle.lent.specs.Lent.{Touched}

-- a channel, its registers stored only where one is set
module _ (ch : Channel) (t : Touch) (lent : Channel) (step : Step) (rx tx : Queue) (is : step ≡ step_at ch t)
    (rx_is : rx ≡ after_of ch.rx step.rx) (tx_is : tx ≡ after_of ch.tx step.tx) where
  pub all_stored : lent ≡ record { settings = step.settings; state = step.state; rx = rx; tx = tx } → lent ≡ touched_by ch t
  unfolding after_step
  all_stored lies = rw (lies, rx_is, tx_is, is)

  pub none_stored : step.setting ≡ None → lent ≡ record { settings = ch.settings; state = step.state; rx = rx; tx = tx } → lent ≡ touched_by ch t
  unfolding after_step
  none_stored kept lies = rw (lies, rx_is, tx_is, is) (rw (none_set ch t (rw is at kept)))

-- a device, one of its channels touched: what is left of the step is a reset, if there is to be one
module _ (d : Device) (at : Side) (t : Touch) (lies : Device) (gave : Gave) (touched : Touched d at t lies gave) where
  comes_at : given_for lies gave.resets gave.reply ≡ named_step d at t
  comes_at = rw (touched.device_is, touched.resets_is, touched.reply_is) (named_in_turn d at t)

  pub ends_reset : gave.resets ≡ true → record { device = reset_device lies; reply = gave.reply } ≡ named_step d at t
  unfolding given_for
  ends_reset resets = rw resets at comes_at

  pub ends_as_it_is : gave.resets ≡ false → record { device = lies; reply = gave.reply } ≡ named_step d at t
  unfolding given_for
  ends_as_it_is stays = rw stays at comes_at
