-- The invariant: the runs are those begun and one for each break to come, the pairs those that went on and those that will.
-- Rests on one number (RunLaws, WriteLaws).
use mathlib.Core.Path.{◌≡◌}
use Prim.Native.Nat.{◌≤◌, ◌+◌}
use lib.ListN.{length, drop}
use Rattle.limits.specs.Limits.{record_max}
use Rattle.list.specs.Interval.{intervals}
use Rattle.convert.proofs.RunLaws.{runs, breaks}
use Rattle.layout.specs.Layout.{cell_lowers}
use Rattle.layout.proofs.WriteLaws.{pairs_from}
use Rattle.layout.proofs.size.count_kept.Given as goal

abbrev pub invariant-loop-x : goal.invariant-loop-x
invariant-loop-x l =
    (l.upper ≤ record_max)
    × (l.begins ≤ 1)
    × (l.n + l.pairs ≤ l.x-index + 1)
    × (l.pairs + l.begins ≤ l.n)
    × (intervals (runs l.numbers) ≡ l.n + breaks l.upper (drop l.x-index l.rest))
    × (length (cell_lowers (runs l.numbers)) ≡ l.pairs + pairs_from l.begins l.upper (drop l.x-index l.rest))
