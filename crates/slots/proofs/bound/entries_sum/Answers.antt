use Prim.Native.Nat.{◌+◌}
use native.Mathlib.Omega.{arith}
use Rattle.index.proofs.SoundLaws.{sound-trailer}
use Rattle.slots.proofs.SumLaws.{sum-next, sum-end}
use Rattle.slots.proofs.bound.entries_sum.Goals as goal

pub loop-m-preserved : goal.loop-m-preserved
loop-m-preserved c =
    let a = c.args in
    let taken = c.loop-m-test.true in
    let e = sum-next a.index.now a.entries.first a.entries.count c.loop-m.m (omega (arith, taken)) (omega (arith, taken)) in
    let counted = c.interval_count-sum.ensures in
    (omega arith, omega (arith, e))

pub returns-clause-is : goal.returns-clause-is
returns-clause-is c =
    let a = c.args in omega (arith, sum-end a.index.now (a.entries.first + c.loop-m.m) a.entries.count c.loop-m.m (omega (arith, c.loop-m-test.false)))

-- there are no more lists than words
pub returns-clause-few : goal.returns-clause-few
returns-clause-few c = omega (arith, (sound-trailer c.args.index.now c.requires.sound).count-bound)
