-- The sum is what is passed and what is left; each list adds no more than the index has room for.
use Prim.Native.Nat.{◌+◌, ◌*◌, ◌≤◌}
use mathlib.Core.Path.{◌≡◌}
use lib.ListN.{drop}
use Rattle.merge.specs.Request.{lists_of}
use Rattle.join.specs.Bound.{interval_sum}
use Rattle.join.proofs.request.interval_sum.Given as goal

abbrev pub invariant-loop-entry : goal.invariant-loop-entry
invariant-loop-entry l =
    (l.sum ≤ 4194304 * l.entry-index)
    × (interval_sum (lists_of l.index l.entries) ≡ l.sum + interval_sum (lists_of l.index (drop l.entry-index l.entries)))
