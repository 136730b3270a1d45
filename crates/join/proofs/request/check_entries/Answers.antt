-- The two rules in turn.
use mathlib.Core.Path.{sym, ◌∙◌}
use Rattle.join.proofs.RequestLaws.{entries_none, entries-many, entries-bad, entries-good}
use Rattle.join.proofs.request.check_entries.Goals as goal

pub returns-then-count-eq0 : goal.returns-then-count-eq0
returns-then-count-eq0 c =
    let args = c.args in
    sym (entries_none args.index.now args.entries.now c.if-count-eq0.true)

pub returns-then-count-gt-JOIN_MAX : goal.returns-then-count-gt-JOIN_MAX
returns-then-count-gt-JOIN_MAX c =
    let args = c.args in
    sym (entries-many args.index.now args.entries.now c.if-count-gt-JOIN_MAX.true)

pub returns-in-Some : goal.returns-in-Some
returns-in-Some c =
    let args = c.args in
    sym (entries-bad args.index.now args.entries.now _ c.if-count-eq0.false c.if-count-gt-JOIN_MAX.false
    (sym c.first_bad_number.ensures ∙ c.in-Some.is))

pub returns-in-None : goal.returns-in-None
returns-in-None c =
    let args = c.args in
    sym (entries-good args.index.now args.entries.now c.if-count-eq0.false c.if-count-gt-JOIN_MAX.false
    (sym c.first_bad_number.ensures ∙ c.in-None.is))
