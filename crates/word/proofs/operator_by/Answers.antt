-- By the length, and then by the letters.
use mathlib.Core.Path.{◌≡◌, refl, sym}
use mathlib.Core.Bool.{Bool, true, false, cond}
use lib.ListN.{length}
use Rattle.std.specs.Prelude.{Some, None}
use Rattle.word.specs.declared.Op.TheVariants.{And, Or, Not}
use Rattle.word.proofs.SpellingLaws.{operator_by, are_two, are_three, operator-two, operator-three, operator-other}
use Rattle.word.proofs.operator_by.Goals as goal
use Rattle.word.proofs.operator_by.Goals.{After-case_bit-bit}

-- what two letters say, and what three say
two : (c : After-case_bit-bit) (t : Bool) → let a = c.args in
    length a.s.now ≡ 2 → are_two a.s.now c.case_bit-bit.result 111 114 ≡ t → operator_by a.every a.s.now ≡ cond t (Some Or) None
two c t h e = let a = c.args in operator-two a.every a.s.now _ c.case_bit-bit.ensures h t e

three : (c : After-case_bit-bit) (s t : Bool) → let a = c.args in
    length a.s.now ≡ 3 → are_three a.s.now c.case_bit-bit.result 97 110 100 ≡ s → are_three a.s.now c.case_bit-bit.result 110 111 116 ≡ t →
    operator_by a.every a.s.now ≡ cond s (Some And) (cond t (Some Not) None)
three c s t h d e = let a = c.args in operator-three a.every a.s.now _ c.case_bit-bit.ensures h s t d e

pub returns-then-s-bit : goal.returns-then-s-bit
returns-then-s-bit c = sym (two (goal.at.returns-then-s-bit c).After-case_bit-bit true c.if-s-eq2.true c.if-s-bit.true)

pub returns-then-s-eq2 : goal.returns-then-s-eq2
returns-then-s-eq2 c = sym (two (goal.at.returns-then-s-eq2 c).After-case_bit-bit false c.if-s-eq2.true c.if-s-bit.false)

pub returns-then-s-ne3 : goal.returns-then-s-ne3
returns-then-s-ne3 c =
    let a = c.args in sym (operator-other a.every a.s.now c.if-s-eq2.false c.if-s-ne3.true)

pub returns-then-x-y : goal.returns-then-x-y
returns-then-x-y c = sym (three (goal.at.returns-then-x-y c).After-case_bit-bit true _ c.if-s-ne3.false c.if-x-y.true refl)

pub returns-then-x-y-2 : goal.returns-then-x-y-2
returns-then-x-y-2 c = sym (three (goal.at.returns-then-x-y-2 c).After-case_bit-bit false true c.if-s-ne3.false c.if-x-y.false c.if-x-y-2.true)

pub returns : goal.returns
returns c = sym (three (goal.at.returns c).After-case_bit-bit false false c.if-s-ne3.false c.if-x-y.false c.if-x-y-2.false)
