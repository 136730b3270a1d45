-- The call's answer, as numbers.
use mathlib.Core.Path.{ap, ◌∙◌}
use Rattle.naburain.specs.Result.{check_result}
use Rattle.naburain.proofs.naburain_check.Goals as goal

pub returns : goal.returns
returns c = c.from.ensures ∙ ap check_result c.check_index.ensures
