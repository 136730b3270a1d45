-- The lists below k have x; what is left of the request decides.
use Rattle.probing.proofs.ProbingLaws.{Looked}
use Rattle.probing.proofs.probe.Given as goal

abbrev pub invariant-loop-k : goal.invariant-loop-k
invariant-loop-k l = Looked l.index l.entries l.x l.b l.until l.k
