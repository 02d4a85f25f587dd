-- Definitions: "one line an event: index from 0, a space, "OK" or "REFUSED", a space, the reply or refusal number"
use Rattle.std.specs.Prelude.{ℕ, List, [], ◌∷◌, Ok, Err}
use Rattle.text.specs.Text.{line_with}
use Rattle.event.specs.Refusals.{refusal_number}
use Rattle.device.specs.Device.{Answer}

-- " OK "
abbrev pub okay : List ℕ
okay = 32 ∷ 79 ∷ 75 ∷ 32 ∷ []

-- " REFUSED "
abbrev pub refused : List ℕ
refused = 32 ∷ 82 ∷ 69 ∷ 70 ∷ 85 ∷ 83 ∷ 69 ∷ 68 ∷ 32 ∷ []

unfoldable pub line_of : ℕ → Answer → List ℕ
line_of index (Ok reply) = line_with index okay reply
line_of index (Err r) = line_with index refused (refusal_number r)
