-- Definitions: what the code goes by: reads of RHR one after the other at a channel, without a device around it.
use Rattle.std.specs.Prelude.{ℕ, zero, suc, ◌≡◌, List, [], ◌∷◌}
use Rattle.registers.specs.declared.register.Register.TheVariants as register
use Rattle.registers.specs.Windows.{register_at}
use Rattle.channel.specs.declared.channel.Channel.{Channel}
use Rattle.acts.specs.Step.{step_at, touched_by}
use Rattle.lent.specs.Drain.{read_rhr}

unfoldable pub channel_after : Channel → ℕ → Channel
channel_after ch zero = ch
channel_after ch (suc n) = channel_after (touched_by ch read_rhr) n

unfoldable pub channel_replies : Channel → ℕ → List ℕ
channel_replies ch zero = []
channel_replies ch (suc n) = (step_at ch read_rhr).reply ∷ channel_replies (touched_by ch read_rhr) n

-- RHR is what address 0 names
abbrev pub Open : Channel → Type 0
Open ch = register_at ch.settings 0 ≡ register.RhrThr
