-- Definitions: histories of plain numbers and of events as they come, refused ones anywhere in them. `proofs/Numbers` shows that
-- they are logs of a new device.
use Rattle.std.specs.Prelude.{List, map}
use Rattle.event.specs.declared.events.Event.{Event}
use Rattle.event.specs.Events.{Numbers, made_of, judged_of, Made}

-- what numbers, kind and three operands each, come to as a history
abbrev pub from_numbers : List Numbers → List Made
from_numbers numbers = map made_of numbers

abbrev pub from_events : List Event → List Made
from_events events = map judged_of events
