-- The invariant: the records counted and those of the cells left are all. Rests on a proper list's intervals one by one (IntervalLaws, SpanLaws).
use mathlib.Core.Path.{◌≡◌}
use Prim.Native.Nat.{◌≤◌, ◌+◌}
use Rattle.limits.specs.Limits.{record_max}
use Rattle.list.specs.Interval.{records}
use Rattle.list.proofs.ProperLaws.{ProperFrom}
use Rattle.convert.proofs.to_numbers.count_numbers.Given as goal

abbrev pub invariant-loop-pair : goal.invariant-loop-pair
invariant-loop-pair l =
    (l.pair-iterator.size ≡ 2)
    × ProperFrom record_max 0 l.pair-iterator.rest.now
    × (l.n + records l.pair-iterator.rest.now ≡ records l.cells)
    × (records l.cells ≤ record_max)
