-- The three parts are the regions of the entry's list.
use mathlib.Core.Path.{◌∙◌}
use Rattle.index.proofs.RuleLaws.{list-rule}
use Rattle.index.proofs.check.list_good.Goals as goal

pub returns : goal.returns
returns c =
    let a = c.args in
    λ i of l. c.is_kept.ensures ∙ list-rule a.index.now i a.entry a.limit of l
