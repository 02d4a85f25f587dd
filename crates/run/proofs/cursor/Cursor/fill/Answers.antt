use native.Mathlib.Omega.{arith}
use Rattle.run.proofs.Laws.{well_formed_progress, over_still, over_silent}
use Rattle.run.proofs.Filling.{filling_new, filling_more, filling_done, filling_whole}
use Rattle.run.proofs.cursor.Cursor.fill.Goals as goal

pub loop-init : goal.loop-init
loop-init c = (omega arith, c.requires, filling_new _ _ _)

pub returns-then-cursor : goal.returns-then-cursor
returns-then-cursor c =
    let filled = filling_done _ _ _ _ _ _ _ c.loop.invariant.2 _ (omega arith) (over_still _ _ _ c.if-cursor.true) (over_silent _ _ _ c.if-cursor.true) (omega arith) in
    record { value = filled.0; out_after = filled.1 }

pub put_said-count-requires : goal.put_said-count-requires
put_said-count-requires c = (omega (arith, c.loop.invariant.1.index_in, c.loop.invariant.1.place_in), omega arith)

pub loop-preserved : goal.loop-preserved
loop-preserved c = (
  omega (arith, c.put_said-count.ensures.within),
  rw c.proceed-progress.ensures (well_formed_progress _ _ c.loop.invariant.1),
  filling_more _ _ _ _ _ _ _ c.loop.invariant.2 _ _ _ c.proceed-progress.ensures c.put_said-count.ensures.text,
)

pub returns : goal.returns
returns c =
    let filled = filling_whole _ _ _ _ _ _ _ c.loop.invariant.2 _ (omega arith) c.loop-test.false (omega arith) in
    record { value = filled.0; out_after = filled.1 }
