use native.Mathlib.Omega.{arith}
use Rattle.slots.proofs.SumLaws.{slots_next, slots_end}
use Rattle.slots.proofs.bound.slots_sum.Goals as goal

pub loop-k-preserved : goal.loop-k-preserved
loop-k-preserved c =
    let a = c.args in
    let e = slots_next a.over.main.now a.over.arrivals.now a.row.now.ranges c.loop-k.k a.count c.loop-k-test.true in
    let counted = c.slot_intervals-sum.ensures in
    (omega arith, omega (arith, e))

pub returns : goal.returns
returns c =
    let a = c.args in omega (arith, slots_end a.over.main.now a.over.arrivals.now a.row.now.ranges c.loop-k.k a.count c.loop-k-test.false)
