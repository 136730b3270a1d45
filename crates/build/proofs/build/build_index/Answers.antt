-- The check's refusal, or what a build of what is good does (GoodLaws).
use mathlib.Core.Path.{sym, ◌∙◌}
use lib.ListN.{length}
use Rattle.std.proofs.lemmas.Result.{err_from_is_err_and}
use Rattle.build.proofs.GoodLaws.{lent-good, refused-lent}
use Rattle.build.proofs.build.build_index.Goals as goal

pub build_checked-requires : goal.build_checked-requires
build_checked-requires c = lent-good (sym c.check.ensures ∙ c.in_ok-check.was)

pub returns-in_err-check : goal.returns-in_err-check
returns-in_err-check c =
    let start = c.args in
    let e = sym c.check.ensures ∙ c.in_err-check.was in
    let after = refused-lent start.n start.words.now start.counts.now start.numbers.now _ (length start.out.now) e in
    let p = err_from_is_err_and c.from_residual.result c.from_residual.ensures.1 in
    record { answer = rw (after, p.1, p.2); bytes = rw after }
