-- The loop's invariant says what the pass has come to before the next code.
use Rattle.codes.proofs.PassLaws.{Passing}
use Rattle.codes.proofs.group.group_codes.Given as goal

abbrev pub invariant-loop-i : goal.invariant-loop-i
invariant-loop-i g l = Passing g.C.AsCode.written l.codes l.initial.out l.out l.i l.at
