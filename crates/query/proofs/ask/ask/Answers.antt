-- Of a sound index, what the question is answered with.
use mathlib.Core.Path.{sym, ◌∙◌}
use Rattle.index.proofs.CheckLaws.{good-sound}
use Rattle.query.proofs.ask.ask.Goals as goal

pub answer_question-requires : goal.answer_question-requires
answer_question-requires c = good-sound c.args.index.now (sym c.check_index.ensures ∙ c.in_ok-check_index.was)
