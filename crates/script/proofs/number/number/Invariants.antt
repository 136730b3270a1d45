-- The invariant: the number is the one that goes on from the value with what is left.
use mathlib.Core.Path.{◌≡◌}
use Prim.Native.Nat.{◌<◌}
use lib.ListN.{drop}
use Rattle.script.specs.Number.{number_from, number_in}
use Rattle.script.proofs.number.number.Given as goal

abbrev pub invariant-loop-b : goal.invariant-loop-b
invariant-loop-b l = (l.value < 1000000000000000000) × (number_in l.s ≡ number_from l.value (drop l.b-index l.s))
