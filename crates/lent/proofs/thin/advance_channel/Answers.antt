use mathlib.Core.Path.{refl}
use Rattle.std.specs.Prelude.{◌≡◌, None}
use Rattle.std.proofs.Common.{rules}
use Rattle.acts.specs.Laws.{step_in}
use Rattle.lent.proofs.Stored.{all_stored, none_stored}
use Rattle.lent.proofs.thin.advance_channel.Goals as goal

pub settle-requires : goal.settle-requires
settle-requires c = rw c.step-step.ensures (step_in _ c.requires.0 _ c.requires.1).rx_in.place_in

pub settle-requires-2 : goal.settle-requires-2
settle-requires-2 c = rw c.step-step.ensures (step_in _ c.requires.0 _ c.requires.1).tx_in.place_in

pub returns-then-is_some-clause-lent_after : goal.returns-then-is_some-clause-lent_after
returns-then-is_some-clause-lent_after c = all_stored _ _ _ _ _ _ c.step-step.ensures c.settle.ensures c.settle-2.ensures refl

pub returns-else-is_some-clause-lent_after : goal.returns-else-is_some-clause-lent_after
returns-else-is_some-clause-lent_after c =
    let none : c.step-step.result.setting ≡ None = search rules in
    none_stored _ _ _ _ _ _ c.step-step.ensures c.settle.ensures c.settle-2.ensures none refl
