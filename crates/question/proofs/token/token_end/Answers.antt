-- By the token.
use mathlib.Core.Path.{sym, ap}
use native.Mathlib.Omega.{arith}
use Rattle.question.specs.Next.{end_of}
use Rattle.question.proofs.token.token_end.Goals as goal

pub overflow_add-result : goal.overflow_add-result
overflow_add-result c = omega (arith, ap end_of c.in-Open.is)

pub overflow_add-result-in-Close : goal.overflow_add-result-in-Close
overflow_add-result-in-Close c = omega (arith, ap end_of c.in-Close.is)

pub overflow_add-result-in-Other : goal.overflow_add-result-in-Other
overflow_add-result-in-Other c = omega (arith, ap end_of c.in-Other.is)

pub returns-in-End : goal.returns-in-End
returns-in-End c = sym (ap end_of c.in-End.is)

pub returns-in-Word : goal.returns-in-Word
returns-in-Word c = sym (ap end_of c.in-Word.is)

pub returns-in-Op : goal.returns-in-Op
returns-in-Op c = sym (ap end_of c.in-Op.is)

pub returns-in-Open : goal.returns-in-Open
returns-in-Open c = sym (ap end_of c.in-Open.is)

pub returns-in-Close : goal.returns-in-Close
returns-in-Close c = sym (ap end_of c.in-Close.is)

pub returns-in-Other : goal.returns-in-Other
returns-in-Other c = sym (ap end_of c.in-Other.is)
