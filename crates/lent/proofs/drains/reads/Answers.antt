use Rattle.std.proofs.Common.{arith}
use Rattle.lent.proofs.Reading.{none_read, first_read, read_between, last_read, all_read}
use Rattle.lent.proofs.drains.reads.Goals as goal

pub returns-then-part-eq0 : goal.returns-then-part-eq0
returns-then-part-eq0 c = none_read _ _ c.if-part-eq0.true

pub returns-then-last-eq0 : goal.returns-then-last-eq0
returns-then-last-eq0 c =
    all_read _ _ _ _ 1
    (first_read _ _ _ _ c.requires.0 (c.requires.1 (omega arith)) (omega arith) c.read.ensures.gave c.read.ensures.lent_after) (omega arith)

pub loop-i-init : goal.loop-i-init
loop-i-init c = first_read _ _ _ _ c.requires.0 (c.requires.1 (omega arith)) (omega arith) c.read.ensures.gave c.read.ensures.lent_after

pub loop-i-preserved : goal.loop-i-preserved
loop-i-preserved c = read_between _ _ _ _ _ c.loop-i.invariant (omega arith) _ _ c.take.ensures.gave c.take.ensures.lent_after

pub returns : goal.returns
returns c = last_read _ _ _ _ _ c.loop-i.invariant (omega arith) (omega arith) _ _ c.read-2.ensures.gave c.read-2.ensures.lent_after
