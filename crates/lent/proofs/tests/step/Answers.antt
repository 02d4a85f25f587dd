use Rattle.lent.specs.Laws.{well_formed_advanced}
use Rattle.lent.proofs.tests.step.Goals as goal

pub returns : goal.returns
returns c = well_formed_advanced _ _ _ _ _ _ _ c.requires c.advance-answer.ensures
