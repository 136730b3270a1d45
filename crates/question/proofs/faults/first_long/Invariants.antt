-- The loop's invariant: the first long run is the first from here on. The measure is what is left of the length.
use Prim.Native.Nat.{◌≤◌, ◌-◌}
use mathlib.Core.Path.{◌≡◌}
use lib.ListN.{length}
use Rattle.refusal.specs.First.{first, first_from}
use Rattle.question.specs.Reading.{long_at}
use Rattle.question.proofs.faults.first_long.Given as goal

abbrev pub invariant-loop-i : goal.invariant-loop-i
invariant-loop-i l = (l.i ≤ length l.s) × (first (long_at l.s) (length l.s) ≡ first_from (long_at l.s) l.i (length l.s - l.i))

abbrev pub decreases-loop-i : goal.decreases-loop-i
decreases-loop-i l = length l.s - l.i
