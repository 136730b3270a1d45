-- The invariant: the first bad count is the first from place i on, and what is left of the numbers is what the counts passed did not take.
-- Rests on one count (CountLaws).
use mathlib.Core.Path.{◌≡◌}
use Prim.Native.Nat.{◌-◌, ◌+◌}
use Rattle.refusal.specs.First.{first_from, first}
use Rattle.build.specs.Lent.{sum_to, bad_count}
use Rattle.build.proofs.counts.check_counts.Given as goal

abbrev pub invariant-loop-i : goal.invariant-loop-i
invariant-loop-i l =
    (sum_to l.counts l.i + l.left ≡ l.total)
    × (first (bad_count l.counts l.total) l.words ≡ first_from (bad_count l.counts l.total) l.i (l.words - l.i))
