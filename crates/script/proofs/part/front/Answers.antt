-- The part's end, from 0 on, is its length.
use native.Mathlib.Omega.{arith}
use lib.ListN.{length-take}
use Rattle.script.proofs.PartLaws.{front_at}
use Rattle.script.proofs.part.front.Goals as goal

pub returns : goal.returns
returns c =
    let a = c.args in
    front_at a.b a.s.now c.part_end-end.result c.part_end-end.ensures.place

pub slice_bounds-result-end : goal.slice_bounds-result-end
slice_bounds-result-end c = simp length-take (omega arith)
