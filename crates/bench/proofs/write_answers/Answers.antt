use Rattle.std.proofs.Common.{arith}
use Rattle.std.proofs.lemmas.Bool.{not-true}
use Rattle.run.proofs.Laws.{well_formed_new_cursor, well_formed_after, nearer_after}
use Rattle.bench.proofs.write_answers.Goals as goal

pub loop-cursor-init : goal.loop-cursor-init
loop-cursor-init c = rw c.new-cursor.ensures well_formed_new_cursor

pub loop-cursor-smaller : goal.loop-cursor-smaller
loop-cursor-smaller c = rw c.in_ok-cursor.ensures (nearer_after _ 4096 _ (omega arith) (not-true _ c.loop-cursor-test.true))

pub loop-cursor-preserved : goal.loop-cursor-preserved
loop-cursor-preserved c = rw c.in_ok-cursor.ensures (well_formed_after 4096 _ _ c.loop-cursor.invariant)
