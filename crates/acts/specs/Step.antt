-- Definitions: "Within an event: the act, the latch, the RTS flag, the THR flag": what an event that names a channel makes of
-- it.
use Rattle.event.specs.declared.events.Touch.{Touch}
use Rattle.channel.specs.declared.channel.Channel.{Channel}
use Rattle.channel.specs.declared.settle.Step.{Step}
use Rattle.channel.specs.Settle.{settled_of, after_step}
use Rattle.acts.specs.Acts.{act_of}

unfoldable pub step_at : Channel → Touch → Step
step_at ch t = settled_of ch (act_of ch t)

-- the channel after an event that names it
abbrev pub touched_by : Channel → Touch → Channel
touched_by ch t = after_step ch (step_at ch t)
