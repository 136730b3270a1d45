-- The count is not before lo. It is not past hi where a comparison stopped the steps, or the region ends.
use Prim.Native.Nat.{◌≤◌, ◌-◌, ◌/◌}
use mathlib.Core.Path.{◌≡◌}
use lib.ListN.{length}
use Rattle.list.specs.Cell.{numbers_in}
use Rattle.list.specs.Seek.{count_below}
use Rattle.list.proofs.seek.count_below.Given as goal

abbrev pub invariant-loop-hi : goal.invariant-loop-hi
invariant-loop-hi l = (l.lo ≤ count_below l.x (numbers_in l.region)) × (l.lo ≤ l.hi) × (l.hi ≤ l.n) × (l.n ≡ length l.region / 4)

abbrev pub decreases-loop-hi : goal.decreases-loop-hi
decreases-loop-hi l = l.n - l.lo
