-- Definitions: what `proofs/Pause` shows of Xon and Xoff over every history: the bytes that are put to wait, in turn, and a channel
-- whose EFR 3:0 stay clear.
use Rattle.std.specs.Prelude.{◌≡◌, Bool, not, List, [], ◌∷◌, ◌++◌}
use Rattle.bits.specs.Choice.{pick}
use Rattle.bits.specs.Bits.{differs}
use Rattle.event.specs.Events.{Made}
use Rattle.registers.specs.Pairs.{chooses_pair}
use Rattle.channel.specs.declared.channel.Channel.{Channel}
use Rattle.acts.specs.Rest.{NoneChosen}
use Rattle.device.specs.declared.side.Side.{Side}
use Rattle.device.specs.declared.device.Device.{Device}
use Rattle.device.specs.Reset.{new_device}
use Rattle.device.specs.Device.{channel_at, answered_of}
use Rattle.history.specs.Judge.{Ledger, judged_by}

-- ---- what is put to wait since EFR 3:2 were last switched on: the second latch has turned, off for Xoff or on for Xon
abbrev pub put_by : Channel → Channel → List Bool
put_by before after = pick (differs before.state.flow.latch after.state.flow.latch) (after.state.flow.latch ∷ []) []

abbrev pub puts_after : List Bool → Channel → Channel → List Bool
puts_after puts before after = pick (chooses_pair after.settings.efr 2) (puts ++ put_by before after) []

abbrev pub puts_from : Side → Device → List Bool → List Made → List Bool
puts_from w d puts [] = puts
puts_from w d puts (m ∷ history) =
    puts_from w (answered_of d m).device (puts_after puts (channel_at d w) (channel_at (answered_of d m).device w)) history

abbrev pub puts : Side → List Made → List Bool
puts w history = puts_from w new_device [] history

-- one and then the other
abbrev pub Alternate : Bool → List Bool → Type 0
Alternate first [] = Unit {0}
Alternate first (x ∷ rest) = (x ≡ first) × Alternate (not first) rest

-- ---- EFR 3:0 clear throughout, by the judge: after such a history nothing of Xon and Xoff is left in the record
abbrev pub NoneChosenIn : Side → Ledger → List Made → Type 0
NoneChosenIn w l [] = NoneChosen l.own
NoneChosenIn w l (m ∷ history) = NoneChosen l.own × NoneChosenIn w (judged_by w l m) history
