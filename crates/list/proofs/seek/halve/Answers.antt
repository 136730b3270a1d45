use Prim.Native.Nat.{◌-◌, ◌+◌, ◌/◌}
use native.Mathlib.Omega.{arith}
use Rattle.list.proofs.SeekLaws.{region-over, region-under}
use Rattle.list.proofs.seek.halve.Goals as goal

pub loop-lo-preserved-then-number_at-x : goal.loop-lo-preserved-then-number_at-x
loop-lo-preserved-then-number_at-x c =
    let l = c.loop-lo in
    let g = region-over c.args.region.now c.args.x (l.lo + (l.hi - l.lo) / 2) _ c.requires.ascends (omega arith)
    c.number_at.ensures c.if-number_at-x.true in
    (omega arith, omega arith, omega arith)

pub loop-lo-preserved : goal.loop-lo-preserved
loop-lo-preserved c =
    let l = c.loop-lo in
    let g = region-under c.args.region.now c.args.x (l.lo + (l.hi - l.lo) / 2) _ c.requires.ascends (omega arith)
    c.number_at.ensures c.if-number_at-x.false in
    (omega arith, g, omega arith)
