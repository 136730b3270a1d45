-- The invariant: the intervals are those begun so far and one for each break to come.
-- Rests on the pass over the numbers (RunLaws), whose cells are the contract's.
use mathlib.Core.Path.{◌≡◌}
use Prim.Native.Nat.{◌≤◌, ◌+◌}
use lib.ListN.{drop}
use Rattle.limits.specs.Limits.{record_max}
use Rattle.list.specs.Interval.{intervals}
use Rattle.convert.proofs.RunLaws.{breaks, runs}
use Rattle.convert.proofs.to_intervals.count_intervals.Given as goal

abbrev pub invariant-loop-x : goal.invariant-loop-x
invariant-loop-x l =
    (l.n ≤ l.x-index + 1) × (l.u ≤ record_max) × (intervals (runs l.listed) ≡ l.n + breaks l.u (drop l.x-index l.rest))
