-- By whether the list is used up.
use mathlib.Core.Path.{sym, ◌∙◌}
use Rattle.std.proofs.Common.{arith}
use Rattle.merge.proofs.DueLaws.{bounds-high, used-up-not}
use Rattle.merge.proofs.keys.refill.Goals as goal
use Rattle.merge.proofs.keys.refill.Goals.{Else-used_up}
use Rattle.merge.specs.Places.{GoesIn}

goes : (c : Else-used_up) → GoesIn c.args.index.now c.args.entry c.args.at
goes c = used-up-not c.requires.place (sym c.used_up.ensures ∙ c.if-used_up.false)

pub lower_key-key-requires-clause-high : goal.lower_key-key-requires-clause-high
lower_key-key-requires-clause-high c =
    omega (arith, c.next_interval.ensures.lower, bounds-high c.requires.entry (goes (goal.at.lower_key-key-requires-clause-high c).Else-used_up))
