use mathlib.Core.Path.{refl, sym, ◌∙◌}
use lib.ListN.{length}
use Rattle.refusal.proofs.FirstLaws.{first-start, first-hit, first-miss, first-end}
use Rattle.convert.specs.Convert.{bad_number}
use Rattle.convert.proofs.NumberLaws.{bad-number, good-number, number-before-next}
use Rattle.convert.proofs.numbers.first_bad_number.Goals as goal

pub loop-i-init : goal.loop-i-init
loop-i-init c =
    let xs = c.args.numbers.now in
    (refl, first-start (bad_number c.args.limit xs) (length xs))

pub returns-then-x-before : goal.returns-then-x-before
returns-then-x-before c =
    let at = c.loop-i in
    let xs = c.args.numbers.now in
    let is = bad-number c.args.limit xs at.i at.before at.invariant.0 c.then-x-before.either in
    sym (at.invariant.1 ∙ first-hit (bad_number c.args.limit xs) at.i (length xs) c.loop-i-test.true is)

pub loop-i-preserved : goal.loop-i-preserved
loop-i-preserved c =
    let at = c.loop-i in
    let xs = c.args.numbers.now in
    let good = good-number c.args.limit xs at.i at.before at.invariant.0 c.if-x-before.false c.if-limit-x.false in
    (sym (number-before-next xs at.i), at.invariant.1 ∙ first-miss (bad_number c.args.limit xs) at.i (length xs) c.loop-i-test.true good)

pub returns : goal.returns
returns c =
    let xs = c.args.numbers.now in
    sym (c.loop-i.invariant.1 ∙ first-end (bad_number c.args.limit xs) c.loop-i.i (length xs) c.loop-i-test.false)
