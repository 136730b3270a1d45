-- The five tests are those of the directory rule.
use Rattle.index.proofs.RuleLaws.{directory-rule}
use Rattle.index.proofs.check.directory_good.Goals as goal

pub returns : goal.returns
returns c =
    let a = c.args in
    λ index i is of w l. rw c.list_length.ensures (directory-rule index i a.trailer a.entry a.words a.lists is of w l)
