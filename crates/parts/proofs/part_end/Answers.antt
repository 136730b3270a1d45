use Rattle.std.proofs.Common.{arith}
use borrow.Author.Tests.{eq-eqb, ne_eqb}
use Rattle.parts.proofs.PartLaws.{part-on, part-stop, part_none}
use Rattle.parts.proofs.part_end.Goals as goal

pub returns-then-s-i-clause-place : goal.returns-then-s-i-clause-place
returns-then-s-i-clause-place c =
    let a = c.args in
    omega (arith, part-stop a.b a.s.now c.loop-i.i (omega arith) (eq-eqb _ a.b c.if-s-i.true))

pub loop-i-preserved : goal.loop-i-preserved
loop-i-preserved c =
    let a = c.args in
    omega (arith, part-on a.b a.s.now c.loop-i.i (omega arith) (ne_eqb _ a.b c.if-s-i.false))

pub returns-clause-place : goal.returns-clause-place
returns-clause-place c =
    let a = c.args in
    grind (arith, c.max.ensures, part_none a.b a.s.now c.loop-i.i, part_none a.b a.s.now a.from)
