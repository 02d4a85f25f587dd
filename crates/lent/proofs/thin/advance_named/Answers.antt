use Rattle.lent.proofs.Stored.{ends_reset, ends_as_it_is}
use Rattle.lent.proofs.thin.advance_named.Goals as goal

pub returns-then-gave : goal.returns-then-gave
returns-then-gave c = rw c.reset.ensures (ends_reset _ _ _ _ _ c.touch_channel-gave.ensures c.if-gave.true)

pub returns-else-gave : goal.returns-else-gave
returns-else-gave c = ends_as_it_is _ _ _ _ _ c.touch_channel-gave.ensures c.if-gave.false
