-- Definitions: what `proofs/Records` shows of the record after every history: bits that stay 0, and replies of at most 256.
use Rattle.std.specs.Prelude.{◌≡◌, false, List, [], ◌∷◌}
use Rattle.bits.specs.Bits.{bit_at}
use Rattle.event.specs.Events.{Made}
use Rattle.registers.specs.declared.settings.Settings.{Settings}
use Rattle.device.specs.declared.side.Side.{Side}
use Rattle.device.specs.Device.{channel_at, Answer}
use Rattle.device.specs.Replies.{AnswerIn}
use Rattle.history.specs.Demand3.{ran}

-- the stored registers of a channel after a history
abbrev pub stored : Side → List Made → Settings
stored w history = (channel_at (ran history) w).settings

-- "FCR 3, MCR 3 and EFCR 7, 6, 3 stay 0"; of FCR "Bits 1 and 2 aren't stored."
pub record StayZero (s : Settings) : Type 0 where
  pub fcr_1 : bit_at s.fcr 1 ≡ false
  pub fcr_2 : bit_at s.fcr 2 ≡ false
  pub fcr_3 : bit_at s.fcr 3 ≡ false
  pub mcr_3 : bit_at s.mcr 3 ≡ false
  pub efcr_3 : bit_at s.efcr 3 ≡ false
  pub efcr_6 : bit_at s.efcr 6 ≡ false
  pub efcr_7 : bit_at s.efcr 7 ≡ false

-- ---- every reply on the way is at most 256
abbrev pub AnswersIn : List Answer → Type 0
AnswersIn [] = Unit {0}
AnswersIn (a ∷ answers) = AnswerIn a × AnswersIn answers
