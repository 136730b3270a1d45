use Prim.Native.Nat.{◌≤◌, ◌<◌}
use native.Mathlib.Omega.{arith}
use lib.ListN.{length}
use Rattle.list.specs.Cell.{numbers_in}
use Rattle.list.proofs.CellLaws.{numbers_in-length}
use Rattle.fill.proofs.FillingLaws.{singles-side, side-start, side-order, side-step, side-done, side-past}
use Rattle.fill.proofs.fill_singles.Goals as goal
use Rattle.fill.proofs.fill_singles.Goals.{After-number_at-s}

-- the single that a turn reads is one of the singles
stands : (c : After-number_at-s) → c.loop-i.i < length (numbers_in c.args.singles.now)
stands c = let test = c.loop-i-test.true in omega (arith, numbers_in-length c.args.singles.now)

-- and does not lie below base
ahead : (c : After-number_at-s) → c.args.base ≤ c.number_at-s.result
ahead c = (side-order (singles-side c.requires.ascends) c.loop-i.invariant (stands c) c.number_at-s.ensures c.number_at-s.ensures).1

pub returns-then-end-s : goal.returns-then-end-s
returns-then-end-s c =
    let test = c.if-end-s.true in
    side-past (singles-side c.requires.ascends) c.loop-i.invariant c.number_at-s.ensures (omega arith)

pub loop-i-preserved : goal.loop-i-preserved
loop-i-preserved c = side-step (singles-side c.requires.ascends) c.loop-i.invariant (stands (goal.at.loop-i-preserved c).After-number_at-s) c.number_at-s.ensures c.number_at-s.ensures
    c.set_bit.ensures

pub returns : goal.returns
returns c =
    let test = c.loop-i-test.false in
    side-done (singles-side c.requires.ascends) c.loop-i.invariant (omega (arith, numbers_in-length c.args.singles.now))

pub loop-i-init : goal.loop-i-init
loop-i-init c = side-start (singles-side c.requires.ascends) c.requires.begins

pub overflow_sub-s : goal.overflow_sub-s
overflow_sub-s c = omega (arith, ahead (goal.at.overflow_sub-s c).After-number_at-s)

pub set_bit-requires : goal.set_bit-requires
set_bit-requires c = omega (arith, ahead (goal.at.set_bit-requires c).After-number_at-s, c.loop-i.invariant.filling.long)
