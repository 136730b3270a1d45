-- By what the check of the request answers.
use mathlib.Core.Path.{sym, ◌∙◌}
use Rattle.join.proofs.RequestLaws.{request-asked}
use Rattle.join.proofs.join.join.Goals as goal

pub join_asked-requires : goal.join_asked-requires
join_asked-requires g c =
    let a = c.args in
    request-asked a.index.now a.entries.now (sym c.check_request.ensures ∙ c.in_ok-check_request.was)
