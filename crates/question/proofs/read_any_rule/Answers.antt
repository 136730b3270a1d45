-- Refusal by refusal, in their order.
use mathlib.Core.Path.{sym, ◌∙◌}
use Rattle.question.proofs.FaultLaws.{reading-length, reading-foreign, reading-long, reading-else}
use Rattle.question.proofs.read_any_rule.Goals as goal

pub returns-then-question-gt-QUESTION_MAX : goal.returns-then-question-gt-QUESTION_MAX
returns-then-question-gt-QUESTION_MAX c rule = sym (reading-length rule c.args.question.now c.if-question-gt-QUESTION_MAX.true)

pub returns-in-Some : goal.returns-in-Some
returns-in-Some c rule =
    sym (reading-foreign rule c.args.question.now c.if-question-gt-QUESTION_MAX.false c.in-Some.place
    (sym c.first_foreign.ensures ∙ c.in-Some.is))

pub returns-in-Some-first_long : goal.returns-in-Some-first_long
returns-in-Some-first_long c rule =
    let proper = sym c.first_foreign.ensures ∙ c.in_default.is in
    sym (reading-long rule c.args.question.now
    c.if-question-gt-QUESTION_MAX.false proper c.in-Some-first_long.place
    (sym c.first_long.ensures ∙ c.in-Some-first_long.is))

pub returns : goal.returns
returns c rule =
    let proper = sym c.first_foreign.ensures ∙ c.in_default.is in
    let none = sym c.first_long.ensures ∙ c.in_default-first_long.is in
    c.read_whole.ensures rule
    ∙ sym (reading-else rule c.args.question.now
    c.if-question-gt-QUESTION_MAX.false proper none)
