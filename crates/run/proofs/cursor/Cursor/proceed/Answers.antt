use mathlib.Core.Path.{sym, ap, ◌∙◌}
use Rattle.std.proofs.Common.{Ok}
use Rattle.run.specs.Cursor.{progress_of}
use Rattle.run.proofs.Laws.{read_judged}
use Rattle.run.proofs.cursor.Cursor.proceed.Goals as goal

pub returns-in-Ok : goal.returns-in-Ok
unfolding progress_of
returns-in-Ok c =
    let stands = sym c.read_at.ensures ∙ c.in-Ok-Some.is ∙ ap Ok c.in-Ok-Some.field-0-is in
    simp (c.going_on.ensures, c.step.ensures, read_judged _ _ _ stands c.in-Ok.is, stands, c.in-Ok.is, c.if-self.false)
