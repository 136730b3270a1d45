-- The loop's invariant says what the pass has come to before the next token. The measure is what is left of the question.
use Prim.Native.Nat.{◌-◌}
use lib.ListN.{length}
use Rattle.slots.proofs.CompileLaws.{Compiling}
use Rattle.slots.proofs.compile.compile.Given as goal

abbrev pub invariant-loop-start : goal.invariant-loop-start
invariant-loop-start g l = Compiling g.C.AsCode.written l.halves l.over.main.now l.over.arrivals.now l.question l.initial.codes l.initial.row l.codes l.row l.count l.slots l.at

abbrev pub decreases-loop-start : goal.decreases-loop-start
decreases-loop-start g l = length l.question - l.at
