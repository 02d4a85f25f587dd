-- Laws: histories of plain numbers and of events as they come, refused ones anywhere in them, are logs of a new device: demand 3
-- holds of these too.
use Rattle.std.specs.Prelude.{◌≡◌, refl, List, [], ◌∷◌, map}
use Rattle.event.specs.declared.events.Event.{Event}
use Rattle.event.specs.Events.{Numbers, made_of, judged_of, Made}
use Rattle.device.specs.declared.side.Side.{Side}
use Rattle.device.specs.Laws.{MadeIn, made_in, judged_in}
use Rattle.history.specs.Demand3.{AllIn, log_of, OfNewDevice, remainder, Demand3, Alone}
use Rattle.history.proofs.Proved.{demand_3}
use Rattle.history.proofs.Alone.{alone}
use Rattle.history.specs.Numbers.{from_events, from_numbers}

all_in : {A : Type 0} (make : A → Made) → ((a : A) → MadeIn (make a)) → (list : List A) → AllIn (map make list)
all_in make each [] = tt
all_in make each (a ∷ rest) = (each a, all_in make each rest)

of_numbers : (numbers : List Numbers) → OfNewDevice (log_of (from_numbers numbers))
of_numbers numbers = record { range = all_in made_of (λ n. made_in n.kind n.x n.y n.z) numbers; same = refl }

of_events : (events : List Event) → OfNewDevice (log_of (from_events events))
of_events events = record { range = all_in judged_of judged_in events; same = refl }

pub demand_3_of_numbers : (w : Side) (numbers : List Numbers) → Demand3 w (log_of (from_numbers numbers))
demand_3_of_numbers w numbers = demand_3 w (log_of (from_numbers numbers)) (of_numbers numbers)

pub demand_3_of_events : (w : Side) (events : List Event) → Demand3 w (log_of (from_events events))
demand_3_of_events w events = demand_3 w (log_of (from_events events)) (of_events events)

pub alone_of_numbers : (w : Side) (numbers another : List Numbers) → remainder w (from_numbers numbers) ≡ remainder w (from_numbers another)
    → Alone w (log_of (from_numbers numbers)) (log_of (from_numbers another))
alone_of_numbers w numbers another same =
    alone w (log_of (from_numbers numbers)) (log_of (from_numbers another)) (of_numbers numbers) (of_numbers another) same
