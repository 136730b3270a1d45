-- By the laws of the free cell that moves to the front; the measure is that cell.
use Rattle.heap.proofs.SiftLaws.{GoingUp}
use Rattle.heap.proofs.push.Given as goal

abbrev pub invariant-loop-i : goal.invariant-loop-i
invariant-loop-i l = GoingUp l.size l.x l.initial.cells l.cells l.i

abbrev pub decreases-loop-i : goal.decreases-loop-i
decreases-loop-i l = l.i
