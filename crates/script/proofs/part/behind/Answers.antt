-- Behind the part's end, or at the end of all, where nothing is left.
use native.Mathlib.Omega.{arith}
use Rattle.script.proofs.PartLaws.{behind-at, behind-none}
use Rattle.script.proofs.part.behind.Goals as goal

pub returns-then-end-s : goal.returns-then-end-s
returns-then-end-s c =
    let a = c.args in
    behind-at a.b a.s.now c.part_end-end.result c.part_end-end.ensures.place

pub returns : goal.returns
returns c =
    let a = c.args in
    behind-none a.b a.s.now c.part_end-end.result c.part_end-end.ensures.place (omega arith)
