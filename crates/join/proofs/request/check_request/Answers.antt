-- By what the check of the index answers.
use mathlib.Core.Path.{sym, ◌∙◌}
use Rattle.std.proofs.lemmas.Result.{err_from_is_err_and}
use Rattle.index.proofs.CheckLaws.{good-sound}
use Rattle.join.proofs.RequestLaws.{request-refused, request-sound}
use Rattle.join.proofs.request.check_request.Goals as goal

pub check_entries-requires : goal.check_entries-requires
check_entries-requires c = good-sound c.args.index.now (sym c.check_index.ensures ∙ c.in_ok-check_index.was)

pub returns-in_err-check_index : goal.returns-in_err-check_index
returns-in_err-check_index c =
    let args = c.args in
    let p = err_from_is_err_and c.from_residual.result c.from_residual.ensures.1 in
    let e = sym (request-refused args.index.now args.entries.now _ (sym c.check_index.ensures ∙ c.in_err-check_index.was)) in
    rw (p.1, p.2) e

pub returns : goal.returns
returns c =
    let args = c.args in
    c.check_entries.ensures
    ∙ sym (request-sound args.index.now args.entries.now (sym c.check_index.ensures ∙ c.in_ok-check_index.was))
