-- The length decides.
use mathlib.Core.Path.{sym, ◌∙◌}
use Rattle.list.proofs.SenseLaws.{number_in, end-in}
use Rattle.list.proofs.sense.number_or_end.Goals as goal

pub returns-then-i-region : goal.returns-then-i-region
returns-then-i-region c =
    let a = c.args in c.number_at.ensures ∙ sym (number_in a.region.now a.i c.if-i-region.true)

pub returns-else-i-region : goal.returns-else-i-region
returns-else-i-region c =
    let a = c.args in sym (end-in a.region.now a.i c.if-i-region.false)
