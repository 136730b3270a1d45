-- The call's answer, as numbers.
use mathlib.Core.Path.{ap, ◌∙◌}
use Rattle.naburain.specs.Result.{lookup_result}
use Rattle.naburain.proofs.naburain_lookup.Goals as goal

pub returns : goal.returns
returns c = c.from.ensures ∙ ap lookup_result c.look_up.ensures
