-- Less is before.
use mathlib.Core.Path.{sym, ap, ◌∙◌}
use Rattle.std.specs.Ordering.{is_lt}
use Rattle.word.proofs.WordLaws.{before-less}
use Rattle.directory.proofs.find.stands_before.Goals as goal

pub returns : goal.returns
returns c = c.is_lt.ensures ∙ ap is_lt c.order_at.ensures ∙ sym (before-less _ _)
