-- The words below i are combined, the others as they were (Upto).
use Rattle.window.specs.Window.{CombinedWord}
use Rattle.window.proofs.CombineLaws.{Upto}
use Rattle.question.specs.Meaning.{combine}
use Rattle.evaluate.proofs.combine.combine_by.Given as goal

abbrev pub invariant-loop-i : goal.invariant-loop-i
invariant-loop-i l = Upto (CombinedWord (combine l.op)) l.fn.ws l.other l.i l.ws
