use native.Mathlib.Omega.{arith}
use borrow.Author.Tests.{not-true, not-false}
use Rattle.probing.proofs.ProbingLaws.{probe-out, looked-start, looked-next, looked-end}
use Rattle.probing.proofs.probe.Goals as goal

pub returns-then-not-sense-clause-steady : goal.returns-then-not-sense-clause-steady
returns-then-not-sense-clause-steady c =
    let asked = c.requires in
    let called = c.sense_of-sense in
    let e = c.min.ensures in
    rw e (probe-out asked.within asked.order c.loop-k.k (omega (arith, c.requires.within.asked.some))
    (not-true _ c.if-not-sense.true) called.ensures)

pub loop-k-preserved : goal.loop-k-preserved
loop-k-preserved c =
    rw c.min-until.ensures (looked-next c.loop-k.invariant (omega (arith, c.requires.within.asked.some)) (not-false _ c.if-not-sense.false) c.sense_of-sense.ensures)

pub returns-clause-steady : goal.returns-clause-steady
returns-clause-steady c =
    let r = c.loop-k.invariant in
    looked-end r (omega arith) c.requires.within.high

pub loop-k-init : goal.loop-k-init
loop-k-init c = looked-start c.requires.order
