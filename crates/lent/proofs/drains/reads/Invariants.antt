-- Once the first is read, what is left to be read comes to what the whole does.
use Rattle.std.specs.Prelude.{length}
use Rattle.lent.proofs.Reading.{Reading}
use Rattle.lent.proofs.drains.reads.Given as goal

abbrev pub invariant-loop-i : goal.invariant-loop-i
invariant-loop-i l = Reading l.fn.channel (length l.fn.part) l.part l.channel l.i
