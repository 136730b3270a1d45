-- The invariant: all bytes are those of the lists passed and of those left. Rests on one list of the pass (ListsLaws).
use mathlib.Core.Path.{◌≡◌}
use Prim.Native.Nat.{◌≤◌, ◌+◌, ◌*◌}
use lib.ListN.{length, drop}
use Rattle.limits.specs.Limits.{record_max}
use Rattle.build.specs.Lent.{sum_to, lists_from}
use Rattle.layout.specs.Layout.{lists_bytes}
use Rattle.build.proofs.size.lists_size.Given as goal

abbrev pub invariant-loop-count : goal.invariant-loop-count
invariant-loop-count l =
    (l.start ≡ sum_to l.counts l.count-index)
    × (l.start ≤ length l.numbers)
    × (l.size ≤ 4 * l.start)
    × (length (lists_bytes record_max (lists_from l.counts l.numbers)) ≡ l.size + length (lists_bytes record_max (lists_from (drop l.count-index l.counts) (drop l.start l.numbers))))
