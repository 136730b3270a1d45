-- The call's answer, as numbers.
use mathlib.Core.Path.{ap, ◌∙◌}
use Rattle.naburain.specs.Result.{probe_result}
use Rattle.naburain.proofs.naburain_probe.Goals as goal

pub returns : goal.returns
returns c = c.from.ensures ∙ ap probe_result c.probe_entry.ensures
