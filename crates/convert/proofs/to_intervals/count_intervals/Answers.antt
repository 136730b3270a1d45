use mathlib.Core.Path.{sym, ap, ◌∙◌}
use Prim.Native.Nat.{ℕ, ◌-◌}
use native.Mathlib.Omega.{arith}
use lib.ListN.{length, take, drop}
use mathlib.Core.List.{List}
use borrow.Author.Rules.{rules}
use Rattle.limits.specs.Limits.{record_max}
use Rattle.list.specs.Interval.{intervals}
use Rattle.convert.proofs.NumberLaws.{good-number-small, rest-all, rest-small}
use Rattle.convert.proofs.RunLaws.{breaks-at, breaks-end, runs_none, runs-count, runs-cells}
use Rattle.convert.proofs.to_intervals.count_intervals.Goals as goal

pub returns-in_default : goal.returns-in_default
returns-in_default c =
    let xs = c.args.listed.now in
    sym (ap (λ (cells : List ℕ). intervals cells) (sym (runs-cells record_max xs c.requires) ∙ runs_none xs (omega arith)))

pub loop-x-init : goal.loop-x-init
loop-x-init c =
    let xs = c.args.listed.now in
    (search rules, good-number-small record_max xs c.requires 0 (omega arith), rw (rest-all xs) (runs-count xs (omega arith)))

pub loop-x-preserved : goal.loop-x-preserved
loop-x-preserved c =
    let xs = c.args.listed.now in
    let rest = take (length xs - 1) (drop 1 xs) in
    let h = breaks-at c.loop-x.u rest c.loop-x.x-index c.loop-x-test.true in
    (omega arith, rest-small record_max xs c.requires c.loop-x.x-index c.loop-x-test.true, omega arith)

pub returns : goal.returns
returns c =
    let xs = c.args.listed.now in
    let rest = take (length xs - 1) (drop 1 xs) in
    omega (arith, breaks-end c.loop-x.u rest c.loop-x.x-index c.loop-x-test.false, ap length (runs-cells record_max xs c.requires))
