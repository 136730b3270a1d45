use mathlib.Core.Path.{refl, sym, ◌∙◌}
use native.Mathlib.Omega.{arith}
use Rattle.script.proofs.NumberLaws.{number-on, number-stop, number-end}
use Rattle.script.proofs.number.number.Goals as goal

pub returns-then-no_digit-clause-value : goal.returns-then-no_digit-clause-value
returns-then-no_digit-clause-value c =
    let s = c.args.s.now in
    let e = number-stop c.loop-b.value s c.loop-b.b-index (omega arith) (sym c.no_digit.ensures ∙ c.if-no_digit.true) in
    sym (c.loop-b.invariant.1 ∙ e)

pub returns-then-no_digit-clause-small : goal.returns-then-no_digit-clause-small
returns-then-no_digit-clause-small c =
    let s = c.args.s.now in
    let e = number-stop c.loop-b.value s c.loop-b.b-index (omega arith) (sym c.no_digit.ensures ∙ c.if-no_digit.true) in
    omega arith

pub loop-b-preserved : goal.loop-b-preserved
loop-b-preserved c =
    let s = c.args.s.now in
    let v = c.loop-b.value in
    let i = c.loop-b.b-index in
    let e = number-on v s i (omega arith) (sym c.no_digit.ensures ∙ c.if-no_digit.false) in
    (omega arith, c.loop-b.invariant.1 ∙ e ∙ rw c.digit.ensures.value)

pub returns-clause-value : goal.returns-clause-value
returns-clause-value c = sym (c.loop-b.invariant.1 ∙ number-end c.loop-b.value c.args.s.now c.loop-b.b-index (omega arith))

pub loop-b-init : goal.loop-b-init
loop-b-init c = (omega arith, refl)
