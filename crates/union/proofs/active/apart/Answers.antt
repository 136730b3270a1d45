-- Said, so that a wrong gap is refused by name.
use mathlib.Core.Path.{refl}
use Rattle.union.proofs.active.apart.Goals as goal

pub returns : goal.returns
returns c = refl
