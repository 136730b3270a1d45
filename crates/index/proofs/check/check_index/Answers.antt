-- An index that keeps the rule of the trailer is framed by it.
use native.Mathlib.Omega.{arith}
use Rattle.index.proofs.FrameLaws.{framed}
use Rattle.index.proofs.RuleLaws.{told-good}
use Rattle.index.proofs.check.check_index.Goals as goal

pub check_entries-requires : goal.check_entries-requires
check_entries-requires c =
    framed c.args.index.now c.read_trailer-trailer.result (omega arith) c.read_trailer-trailer.ensures
    (told-good _ _ c.trailer_good.ensures c.if-not-trailer_good.false)
