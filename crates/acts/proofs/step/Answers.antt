use Rattle.acts.specs.Laws.{act_in}
use Rattle.acts.proofs.step.Goals as goal

pub settled-requires : goal.settled-requires
settled-requires c = (c.requires.0, rw c.act.ensures (act_in _ c.requires.0 _ c.requires.1))
