-- Definitions: the refusals by document 01's numbers.
use Rattle.std.specs.Prelude.{ℕ, ◌+◌}
use Rattle.event.specs.declared.refusal.Refusal.{Refusal}
use Rattle.event.specs.declared.refusal.Refusal.TheVariants as refusal

abbrev pub refusal_number : Refusal → ℕ
-- "a number's second byte is 00 or has its top bit set"
refusal_number refusal.Number = 1
-- "input ends inside an event"
refusal_number refusal.Short = 2
-- "kind above 8"
refusal_number refusal.Kind = 3
-- "channel above 1"
refusal_number refusal.Channel = 4
-- "address above 15"
refusal_number refusal.Address = 5
-- "byte above 255"
refusal_number refusal.Byte = 6
-- "mark above 7"
refusal_number refusal.Mark = 7
-- "pin value above 15"
refusal_number refusal.Pins = 8
-- "input above 65,536 bytes"
refusal_number refusal.Long = 9

-- where an answer is one number, a refusal's number stands above all replies
abbrev pub refused_answer : ℕ → ℕ
refused_answer number = 512 + number
