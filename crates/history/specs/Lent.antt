-- Definitions: a chain of lent steps and drains from a new device on, as box code makes them through C. `proofs/Lent` shows that it
-- is a log of a new device.
use Rattle.std.specs.Prelude.{ℕ, ◌≡◌, List, [], ◌∷◌, ◌++◌, length, replicate}
use Rattle.event.specs.declared.events.Event.TheVariants as event
use Rattle.event.specs.Events.{Numbers, made_of, judged_of, Made}
use Rattle.device.specs.declared.device.Device.{Device}
use Rattle.device.specs.Reset.{new_device}
use Rattle.lent.specs.Lent.{Advanced}
use Rattle.lent.specs.Drain.{read_rhr, drained_of, part_of}
use Rattle.history.specs.Demand3.{Log}

-- what a record is lent to
pub data Lending : Type 0 where
  -- a step: the numbers that it was given, the number that it answered, and the record that it left
  Step : (given : Numbers) (answer : ℕ) (left : Device) → Lending
  -- a drain: the channel, the stated number of times and the length of the buffer that it was given, the part that it handed back,
  -- and the record that it left
  Drain : (channel most room : ℕ) (part : List ℕ) (left : Device) → Lending

-- what it makes of the record that it is lent
abbrev pub Follows : Device → Lending → Type 0
Follows before (Step given answer left) = Advanced before (made_of given) left answer
Follows before (Drain channel most room part left) =
    (part ≡ part_of before channel most room) × (left ≡ (drained_of before channel most room).device)

abbrev pub left_by : Lending → Device
left_by (Step given answer left) = left
left_by (Drain channel most room part left) = left

-- the events that it stands for, for a drain "as many single reads as the part is long", and the numbers that they are answered with
abbrev pub events_of : Lending → List Made
events_of (Step given answer left) = made_of given ∷ []
events_of (Drain channel most room part left) = replicate (length part) (judged_of (event.At channel read_rhr))

abbrev pub answers_of : Lending → List ℕ
answers_of (Step given answer left) = answer ∷ []
answers_of (Drain channel most room part left) = part

-- each is lent the record that the one before it left
abbrev pub ChainFrom : Device → List Lending → Type 0
ChainFrom d [] = Unit {0}
ChainFrom d (lending ∷ chain) = Follows d lending × ChainFrom (left_by lending) chain

abbrev pub Chain : List Lending → Type 0
Chain chain = ChainFrom new_device chain

abbrev pub last_from : Device → List Lending → Device
last_from d [] = d
last_from d (lending ∷ chain) = last_from (left_by lending) chain

abbrev pub lent_history : List Lending → List Made
lent_history [] = []
lent_history (lending ∷ chain) = events_of lending ++ lent_history chain

abbrev pub lent_answers : List Lending → List ℕ
lent_answers [] = []
lent_answers (lending ∷ chain) = answers_of lending ++ lent_answers chain

abbrev pub lent_log : List Lending → Log
lent_log chain = record { history = lent_history chain; answered = lent_answers chain; device = last_from new_device chain }
