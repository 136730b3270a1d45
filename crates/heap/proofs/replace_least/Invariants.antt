-- By the laws of the free cell that moves to the end; the measure is how far the end is.
use Prim.Native.Nat.{◌-◌}
use Rattle.heap.proofs.SiftLaws.{GoingDown}
use Rattle.heap.proofs.replace_least.Given as goal

abbrev pub invariant-loop-i : goal.invariant-loop-i
invariant-loop-i l = GoingDown l.size l.x l.initial.cells l.cells l.i

abbrev pub decreases-loop-i : goal.decreases-loop-i
decreases-loop-i l = l.size - l.i
