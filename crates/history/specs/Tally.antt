-- For proofs alone: a queue that holds what a tally has unread. The receive queue and its judge meet here and in `proofs/Tally`
-- alone.
use Rattle.std.specs.Prelude.{◌≤◌, ◌≡◌, length}
use Rattle.queue.specs.declared.Queue.{Queue}
use Rattle.queue.specs.List.{items}
use Rattle.history.specs.Judge.{Tally, unread}

-- no more was read than was kept
abbrev pub ReadWithin : Tally → Type 0
ReadWithin l = l.read ≤ length l.kept

-- a queue stands for what a tally has unread
pub record Holds (q : Queue) (l : Tally) : Type 0 where
  pub within : ReadWithin l
  pub same : items q ≡ unread l
