-- Definitions: ".. the latch, the RTS flag, the THR flag", the second latch behind the first: what an act comes to with what
-- settles after it, and the channel afterwards.
use Rattle.std.specs.Prelude.{◌≤◌, Bool}
use Rattle.queue.specs.Queue.{MovedIn, after_of}
use Rattle.levels.specs.declared.trigger.Spaces.{Spaces}
use Rattle.registers.specs.declared.settings.Settings.{Settings}
use Rattle.registers.specs.Writes.{with_any}
use Rattle.registers.specs.Bounds.{SettingIn, SettingsIn}
use Rattle.registers.specs.Pairs.{pair_at}
use Rattle.lines.specs.declared.transmit.Shift.{Shift}
use Rattle.lines.specs.Transmit.{spaces_of, is_busy, thr_condition}
use Rattle.lines.specs.Rts.{latch_after, rts_of}
use Rattle.flow.specs.declared.flow.Flow.{Flow}
use Rattle.flow.specs.Flow.{flow_settled}
use Rattle.interrupts.specs.declared.flags.Moment.{Moment}
use Rattle.interrupts.specs.Flags.{flags_settled}
use Rattle.channel.specs.declared.settle.Act.{Act}
use Rattle.channel.specs.declared.channel.Channel.{Channel}
use Rattle.channel.specs.declared.settle.Step.{Step}
use Rattle.channel.specs.State.{LinesIn, with_flags, with_latch, with_flow}
use Rattle.channel.specs.Channel.{free_at}

-- an act and a step within their bounds: a reply is a byte or 256
pub record ActIn (act : Act) : Type 0 where
  pub setting_in : SettingIn act.setting
  pub lines_in : LinesIn act.state
  pub rx_in : MovedIn act.rx
  pub tx_in : MovedIn act.tx
  pub reply_in : act.reply ≤ 256

pub record StepIn (step : Step) : Type 0 where
  pub settings_in : SettingsIn step.settings
  pub lines_in : LinesIn step.state
  pub rx_in : MovedIn step.rx
  pub tx_in : MovedIn step.tx
  pub reply_in : step.reply ≤ 256

-- RTS and the THR condition
unfoldable pub moment_of : Settings → Bool → Shift → Spaces → Moment
moment_of s latch shift free = record { rts = rts_of s latch (is_busy shift free); thr = thr_condition s free }

unfoldable pub moment_at : Channel → Moment
moment_at ch = moment_of ch.settings ch.state.latch ch.state.shift (free_at ch)

-- the stored registers and the latch after an act
abbrev pub settings_by : Channel → Act → Settings
settings_by ch act = with_any ch.settings act.setting

abbrev pub latch_by : Channel → Act → Bool
latch_by ch act = latch_after (settings_by ch act) (record { 0 = act.rx.count }) act.state.latch

-- ".. drives a second latch, stepped after the first"
abbrev pub flow_by : Channel → Act → Flow
flow_by ch act = flow_settled act.state.flow (settings_by ch act) (pair_at (settings_by ch act) 2) (record { 0 = act.rx.count })

-- the RTS flag and the THR flag go by RTS and the THR condition before the act and now
unfoldable pub settled_of : Channel → Act → Step
settled_of ch act =
    record {
      setting = act.setting;
      settings = settings_by ch act;
      state =
          with_flow
          (with_latch
          (with_flags act.state
          (flags_settled act.state.flags (moment_at ch)
          (moment_of (settings_by ch act) (latch_by ch act) act.state.shift (spaces_of act.tx.count))))
          (latch_by ch act))
          (flow_by ch act);
      rx = act.rx;
      tx = act.tx;
      reply = act.reply;
      resets = act.resets;
    }

-- the channel after a step
unfoldable pub after_step : Channel → Step → Channel
after_step ch step =
    record { settings = step.settings; state = step.state; rx = after_of ch.rx step.rx; tx = after_of ch.tx step.tx }
