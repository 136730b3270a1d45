-- Each operator has its way to combine.
use Rattle.window.proofs.BitLaws.{on_and, on_or}
use Rattle.window.proofs.CombineLaws.{on-without}
use Rattle.evaluate.proofs.combine.combine_word.Goals as goal

pub returns-in-And : goal.returns-in-And
returns-in-And c i =
    let a = c.args in rw c.in-And.is (on_and a.v a.w i)

pub returns-in-Or : goal.returns-in-Or
returns-in-Or c i =
    let a = c.args in rw c.in-Or.is (on_or a.v a.w i)

pub returns-in-Not : goal.returns-in-Not
returns-in-Not c i =
    let a = c.args in rw c.in-Not.is (on-without a.v a.w i)
