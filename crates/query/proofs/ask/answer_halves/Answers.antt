-- The reading refuses first; of an accepted question, what its answer is.
use mathlib.Core.Path.{◌≡◌, sym, ◌∙◌}
use borrow.Author.Rules.{rules}
use Rattle.std.specs.Prelude.{Err}
use Rattle.question.proofs.ParsedLaws.{verdict-accepted, verdict-refused}
use Rattle.source.specs.Source.{satisfying}
use Rattle.source.proofs.AskLaws.{refused-answers}
use Rattle.query.proofs.ask.answer_halves.Goals as goal

pub answer_accepted-requires-clause-asked : goal.answer_accepted-requires-clause-asked
answer_accepted-requires-clause-asked c =
    let a = c.args in
    let by = verdict-accepted a.rule a.question.now _ (sym c.read_question.ensures ∙ c.in_ok-read_question.was) in
    record { tree = by.0; words = c.in_ok-read_question.field-0; is = by.1 }

pub returns-in_err-read_question : goal.returns-in_err-read_question
returns-in_err-read_question c source of =
    let a = c.args in
    let e : c.from_residual.result ≡ Err c.in_err-read_question.field-0.0 = search rules in
    rw e
    (refused-answers (satisfying source) (verdict-refused a.rule a.question.now c.in_err-read_question.field-0.0 (sym c.read_question.ensures ∙ c.in_err-read_question.was)))
