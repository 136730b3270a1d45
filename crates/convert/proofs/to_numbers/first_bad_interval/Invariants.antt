-- The invariant: the first bad interval is the first from place i on. Rests on how a search goes on (FirstLaws) and when an interval is bad (IntervalLaws).
use mathlib.Core.Path.{◌≡◌}
use Prim.Native.Nat.{◌-◌, ◌+◌, ◌/◌}
use lib.ListN.{length}
use Rattle.refusal.specs.First.{first_from}
use Rattle.convert.specs.Convert.{least_lower, bad_interval, bad_interval_of}
use Rattle.convert.proofs.to_numbers.first_bad_interval.Given as goal

abbrev pub invariant-loop-i : goal.invariant-loop-i
invariant-loop-i l =
    (l.least ≡ least_lower l.cells l.i)
    × (bad_interval_of l.cells ≡ first_from (bad_interval l.cells) l.i ((length l.cells + 1) / 2 - l.i))
