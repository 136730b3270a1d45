-- By the laws of the scan line; the measure is how many intervals are left.
use Rattle.merge.proofs.DueLaws.{left_sum}
use Rattle.union.proofs.ActiveLaws.{Line}
use Rattle.union.proofs.active.sweep_active.Given as goal

abbrev pub invariant-loop-keys : goal.invariant-loop-keys
invariant-loop-keys l = Line l.index l.entries l.writing l.initial.out l.out l.keys.cells l.keys.size l.places l.tally l.active

abbrev pub decreases-loop-keys : goal.decreases-loop-keys
decreases-loop-keys l = left_sum l.index l.entries l.places
