-- Definitions: the written form: "An event is its kind and then its operands, each a number in groups of seven bits".
use Rattle.std.specs.Prelude.{ℕ, Bool, List, [], ◌++◌, ltb}
use Rattle.bits.specs.Choice.{pick}
use Rattle.event.specs.declared.events.Event.{Event}
use Rattle.event.specs.Kinds.{operand_count}
use Rattle.event.specs.Events.{Numbers, numbers_of}
use Rattle.file.specs.Numbers.{groups}

-- an operand that the kind has, as it is written; nothing where it has none
abbrev pub operand_bytes : Bool → ℕ → List ℕ
operand_bytes wanted n = pick wanted (groups n) []

-- "An event is its kind and then its operands"
abbrev pub number_bytes : Numbers → List ℕ
number_bytes n =
    groups n.kind
    ++ operand_bytes (ltb 0 (operand_count n.kind)) n.x
    ++ operand_bytes (ltb 1 (operand_count n.kind)) n.y
    ++ operand_bytes (ltb 2 (operand_count n.kind)) n.z

unfoldable pub bytes_of : Event → List ℕ
bytes_of e = number_bytes (numbers_of e)
