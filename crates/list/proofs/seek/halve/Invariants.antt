-- The count lies from lo to hi, and each half that is left out does not hold it.
use Prim.Native.Nat.{◌≤◌, ◌-◌, ◌/◌}
use lib.ListN.{length}
use Rattle.list.specs.Cell.{numbers_in}
use Rattle.list.specs.Seek.{count_below}
use Rattle.list.proofs.seek.halve.Given as goal

abbrev pub invariant-loop-lo : goal.invariant-loop-lo
invariant-loop-lo l =
    (l.lo ≤ count_below l.x (numbers_in l.region)) × (count_below l.x (numbers_in l.region) ≤ l.hi) × (l.hi ≤ length l.region / 4)

abbrev pub decreases-loop-lo : goal.decreases-loop-lo
decreases-loop-lo l = l.hi - l.lo
