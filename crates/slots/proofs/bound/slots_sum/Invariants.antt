-- The loop's invariant: the sum so far, with that of the slots that are left, is the whole. The measure is how many are left.
use Prim.Native.Nat.{◌+◌, ◌-◌, ◌*◌, ◌≤◌}
use mathlib.Core.Path.{◌≡◌}
use Rattle.limits.specs.Limits.{words_max}
use Rattle.slots.specs.Bound.{slots_intervals}
use Rattle.slots.proofs.bound.slots_sum.Given as goal

abbrev pub invariant-loop-k : goal.invariant-loop-k
invariant-loop-k l =
    (l.sum ≤ 2 * words_max * 4194304 * l.k)
    × (l.sum + slots_intervals l.over.main.now l.over.arrivals.now l.row.ranges l.k (l.count - l.k) ≡ slots_intervals l.over.main.now l.over.arrivals.now l.row.ranges 0 l.count)
