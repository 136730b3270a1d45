-- Said, so that a wrong bound is refused by name.
use mathlib.Core.Path.{refl}
use Rattle.lines.proofs.split.is_past.Goals as goal

pub returns : goal.returns
returns c = refl
