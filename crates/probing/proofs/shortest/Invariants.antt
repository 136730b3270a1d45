-- Of the lists below j, none has fewer intervals than the best.
use Prim.Native.Nat.{◌-◌}
use lib.ListN.{length}
use Rattle.probing.proofs.ProbingLaws.{Best}
use Rattle.probing.proofs.shortest.Given as goal

abbrev pub invariant-loop-j : goal.invariant-loop-j
invariant-loop-j l = Best l.index l.entries l.best l.fewest l.j

abbrev pub decreases-loop-j : goal.decreases-loop-j
decreases-loop-j l = length l.entries - l.j
