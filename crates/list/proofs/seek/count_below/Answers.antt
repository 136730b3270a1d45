use Prim.Native.Nat.{◌<◌}
use mathlib.Core.Path.{refl}
use native.Mathlib.Omega.{arith}
use Rattle.list.specs.Cell.{numbers_in}
use Rattle.list.specs.Seek.{count_below}
use Rattle.list.proofs.SeekLaws.{region-over, region-under, region-within}
use Rattle.list.proofs.seek.count_below.Goals as goal
use Rattle.list.proofs.seek.count_below.Goals.{Else-x-number_at}

pub loop-hi-init : goal.loop-hi-init
loop-hi-init c =
    let a = c.args in (c.requires.low, omega arith, omega (arith, region-within a.region.now a.x), refl)

pub halve-requires-clause-high : goal.halve-requires-clause-high
halve-requires-clause-high c =
    region-under c.args.region.now c.args.x c.loop-hi.hi _ c.requires.ascends (omega arith) c.number_at.ensures (omega (arith, c.if-x-number_at.true))

-- the count is past a number below x
passed : (c : Else-x-number_at) →
    c.loop-hi.hi < count_below c.args.x (numbers_in c.args.region.now)
passed c =
    region-over c.args.region.now c.args.x c.loop-hi.hi _ c.requires.ascends (omega arith) c.number_at.ensures (omega (arith, c.if-x-number_at.false))

pub halve-requires-2-clause-high : goal.halve-requires-2-clause-high
halve-requires-2-clause-high c = omega (arith, region-within c.args.region.now c.args.x)

pub loop-hi-preserved-then-n-lo : goal.loop-hi-preserved-then-n-lo
loop-hi-preserved-then-n-lo c =
    let g = passed (goal.at.loop-hi-preserved-then-n-lo c).Else-x-number_at in (omega arith, omega arith, omega arith, omega arith)

pub loop-hi-preserved : goal.loop-hi-preserved
loop-hi-preserved c =
    let g = passed (goal.at.loop-hi-preserved c).Else-x-number_at in (omega arith, omega arith, omega arith, omega arith)
