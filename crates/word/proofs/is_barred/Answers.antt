-- It is barred where it is an operator.
use Rattle.std.proofs.Common.{sym, ap, ◌∙◌}
use Rattle.std.specs.Prelude.{is_some}
use Rattle.word.proofs.SpellingLaws.{barred-some}
use Rattle.word.proofs.is_barred.Goals as goal

pub returns : goal.returns
returns c = c.is_some.ensures ∙ sym (barred-some c.args.every c.args.s.now ∙ ap is_some (sym c.operator_by.ensures))
