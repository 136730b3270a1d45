use mathlib.Core.Path.{◌≡◌, refl, sym, ap, ◌∙◌}
use Prim.Native.Nat.{◌-◌, ◌+◌}
use native.Mathlib.Omega.{arith}
use lib.ListN.{length-set}
use lib.Seq.{sets}
use Rattle.laws.proofs.Lists.{sets-one}
use Rattle.convert.proofs.SpanLaws.{count_up, range_at, range-end}
use Rattle.convert.proofs.to_numbers.write_range.Goals as goal

pub loop-x-init : goal.loop-x-init
loop-x-init c =
    let a = c.args in
    let here : a.k + (a.l - a.l) ≡ a.k = omega arith in
    (refl, rw here)

pub loop-x-preserved : goal.loop-x-preserved
loop-x-preserved c =
    let at = c.loop-x in
    let a = c.args in
    let cell = a.k + (at.x - a.l) in
    let on : a.k + (at.x + 1 - a.l) ≡ cell + 1 = omega arith in
    let next = ap (sets at.out cell) (range_at at.x a.end (omega arith)) in
    let one = sets-one at.out cell at.x (count_up (at.x + 1) (a.end - (at.x + 1))) in
    (simp length-set at.invariant.0, rw on (at.invariant.1 ∙ next ∙ one))

pub returns : goal.returns
returns c = sym (c.loop-x.invariant.1 ∙ ap (sets c.loop-x.out (c.args.k + (c.loop-x.x - c.args.l))) (range-end c.loop-x.x c.args.end (omega arith)))
