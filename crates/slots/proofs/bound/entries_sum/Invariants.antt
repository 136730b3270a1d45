-- The loop's invariant: the sum so far, with that of the lists that are left, is the whole. The measure is how many are left.
use Prim.Native.Nat.{◌+◌, ◌-◌, ◌*◌, ◌≤◌}
use mathlib.Core.Path.{◌≡◌}
use Rattle.slots.specs.Bound.{range_intervals, entries_intervals}
use Rattle.slots.proofs.bound.entries_sum.Given as goal

abbrev pub invariant-loop-m : goal.invariant-loop-m
invariant-loop-m l =
    (l.sum ≤ 4194304 * l.m)
    × (l.sum + range_intervals l.index (l.entries.first + l.m) (l.entries.count - l.m) ≡ entries_intervals l.index l.entries)
