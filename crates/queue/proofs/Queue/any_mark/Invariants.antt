-- What is left to look at decides as the whole does.
use Rattle.queue.proofs.Search.{Left}
use Rattle.queue.proofs.Queue.any_mark.Given as goal

abbrev pub invariant-loop-i : goal.invariant-loop-i
invariant-loop-i l = Left l.marks l.self.start l.self.count l.i
