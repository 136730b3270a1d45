-- The measure is what is left of the question: a token that is not the end lies ahead.
use Prim.Native.Nat.{◌-◌, ◌≤◌}
use lib.ListN.{length}
use Rattle.cases_query.proofs.read_case.print_places.Given as goal

abbrev pub invariant-loop-out : goal.invariant-loop-out
invariant-loop-out g l = l.at ≤ length l.question

abbrev pub decreases-loop-out : goal.decreases-loop-out
decreases-loop-out g l = length l.question - l.at
