-- By what the operator's test found of the run.
use mathlib.Core.Path.{sym, ◌∙◌}
use native.Mathlib.Omega.{arith}
use Rattle.question.proofs.TokenLaws.{run-op, run-word}
use Rattle.question.proofs.token.run_token.Goals as goal

pub returns-in-Some : goal.returns-in-Some
returns-in-Some c =
    let a = c.args in
    run-op a.s.now a.start a.end (omega arith) (sym c.operator_of.ensures ∙ c.in-Some.is)

pub returns-in-None : goal.returns-in-None
returns-in-None c =
    let a = c.args in
    run-word a.s.now a.start a.end (omega arith) (sym c.operator_of.ensures ∙ c.in-None.is)
