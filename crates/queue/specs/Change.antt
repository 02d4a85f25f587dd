-- Definitions: what happens to a queue in an event.
use Rattle.queue.specs.declared.Character.{Character}

-- a character is offered to it, its oldest is removed, all are removed, or it stays as it is
pub data Change : Type 0 where
  Add : Character → Change
  Take : Change
  Clear : Change
  Stay : Change
