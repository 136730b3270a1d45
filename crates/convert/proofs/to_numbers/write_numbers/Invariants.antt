-- The invariant: what is to be stored from cell 0 is what is left to store from cell k. Rests on a proper list's intervals one by one (IntervalLaws, SpanLaws).
use mathlib.Core.Path.{◌≡◌}
use Prim.Native.Nat.{◌≤◌, ◌+◌}
use lib.ListN.{length}
use lib.Seq.{sets}
use Rattle.limits.specs.Limits.{record_max}
use Rattle.list.specs.Interval.{records}
use Rattle.list.proofs.ProperLaws.{ProperFrom}
use Rattle.convert.proofs.SpanLaws.{spans}
use Rattle.convert.proofs.to_numbers.write_numbers.Given as goal

abbrev pub invariant-loop-pair : goal.invariant-loop-pair
invariant-loop-pair l =
    (l.pair-iterator.size ≡ 2)
    × ProperFrom record_max 0 l.pair-iterator.rest.now
    × (length l.out ≡ length l.initial.out)
    × (l.k + records l.pair-iterator.rest.now ≤ length l.out)
    × (sets l.initial.out 0 (spans l.cells) ≡ sets l.out l.k (spans l.pair-iterator.rest.now))
