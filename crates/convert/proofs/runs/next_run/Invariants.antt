-- The invariant: the run from lower to upper is open, and the cells from place i on are its own and those of the numbers left.
use mathlib.Core.Path.{◌≡◌}
use Prim.Native.Nat.{◌≤◌, ◌-◌, ◌+◌}
use lib.ListN.{length, drop}
use Rattle.limits.specs.Limits.{record_max}
use Rattle.convert.proofs.RunLaws.{runs_from, runs}
use Rattle.convert.proofs.runs.next_run.Given as goal

abbrev pub invariant-loop-next : goal.invariant-loop-next
invariant-loop-next l =
    (l.next ≤ length l.numbers)
    × (l.lower ≤ l.upper)
    × (l.upper ≤ record_max)
    × (l.next ≡ l.i + (l.upper + 1 - l.lower))
    × (runs (drop l.i l.numbers) ≡ runs_from l.lower l.upper (drop l.next l.numbers))
